-- The laws, each from the lemmas of its subject.
use Rattle.std.proofs.Common.{◌≡◌, ℕ, ◌+◌, zero, suc, Some, List, [], ◌∷◌, length, inl, inr, refl, sym, ap, ◌∙◌, arith}
use Rattle.blink_page.specs.{PlainPage}
use Rattle.blink_store.specs.{page_of, new_store}
use Rattle.blink_store.proofs.Offered.{has_page}
use Rattle.blink_rest.specs.Chain.{Pages, Cell}
use Rattle.blink_rest.specs.Example.{example_store}
use Rattle.blink_rest.specs.Rest.{AreChains, IsStoreAtRest}
use Rattle.blink_rest.specs.Laws.{EntriesAscend, EntriesAreOneList, EntriesExistAtRest, SearchEndsAtLeaf, EachKeyIsReached, EachPageRefersBelow, EachRightLinkLeads, ExampleIsAtRest, LevelsAreFew}
use Rattle.blink_rest.specs.Numbers.{IsMember}
use Rattle.blink_rest.proofs.OneListOfLevels.{same_entries}
use Rattle.blink_rest.proofs.LeafOfKey.{entries_rise, key_in_range, ends_at_leaf, entries_there, root_there}
use Rattle.blink_rest.proofs.ChildrenAreInChain.{refers_below, right_leads}
use Rattle.blink_rest.proofs.WalkAlongLevel.{store_numbered}
use Rattle.blink_rest.proofs.FewLevels.{at_most_20_levels}
use Rattle.blink_rest.proofs.FirstTree.{first_at_rest}
use Rattle.blink_rest.proofs.ExampleIsAtRest.{example_levels}

pub entries_ascend : EntriesAscend
entries_ascend fan prime pages entries are = entries_rise fan pages prime entries are

pub entries_are_one_list : EntriesAreOneList
entries_are_one_list fan prime pages entries others are too = same_entries fan pages prime entries others are too

pub entries_exist_at_rest : EntriesExistAtRest
entries_exist_at_rest fan prime pages at_rest = entries_there fan pages prime at_rest.0 at_rest.1

pub search_ends_at_leaf : SearchEndsAtLeaf
search_ends_at_leaf fan prime pages entries key at_rest are in_range =
    let it = root_there fan pages prime at_rest.0 at_rest.1 in
    ends_at_leaf fan pages prime at_rest.0 it.0 key entries at_rest.1 it.1 are in_range

pub each_key_is_reached : EachKeyIsReached
each_key_is_reached fan prime pages entries key value at_rest are found =
    let ends = search_ends_at_leaf fan prime pages entries key at_rest are (key_in_range fan pages prime key value entries are found) in (
      ends,
      record {
        root = ends.root;
        is_root = ends.is_root;
        number = ends.number;
        leaf = ends.leaf;
        there = ends.is_leaf_of.there;
        is_leaf = ends.is_leaf_of.is_leaf;
        reached = ends.reached;
        has_entry = sym ends.is_leaf_of.same_value ∙ found;
      },
    )

pub each_page_refers_below : EachPageRefersBelow
each_page_refers_below fan prime pages number page at_rest there inner = refers_below fan pages prime at_rest.0 number page at_rest.1 there inner

pub each_right_link_leads : EachRightLinkLeads
each_right_link_leads fan prime pages number next page at_rest there right = right_leads fan pages prime at_rest.0 number next page at_rest.1 there right

-- a prime block names as many levels as it has chains
pub as_many_levels : (fan level : ℕ) (pages : Pages) (prime : List ℕ) (levels : List (List Cell)) → AreChains fan pages level prime levels → length prime ≡ length levels
as_many_levels fan level pages [] [] chains = refl
as_many_levels fan level pages [] (cells ∷ above) chains = absurd chains
as_many_levels fan level pages (leftmost ∷ prime) [] chains = absurd chains
as_many_levels fan level pages (leftmost ∷ prime) (cells ∷ above) chains = ap suc (as_many_levels fan (level + 1) pages prime above chains.1)

pub levels_are_few : LevelsAreFew
levels_are_few store lawful at_rest =
    omega (
      arith,
      as_many_levels store.fan 0 (page_of store) store.prime at_rest.0 at_rest.1.chains,
      at_most_20_levels store.fan (page_of store) (length store.pages) store.prime at_rest.0 (store_numbered store) lawful.count_in_range.1 at_rest.1,
    )

-- a store of one page has no other number
one_page : (number : ℕ) (fan : ℕ) (page : PlainPage) → page_of (new_store fan) number ≡ Some page → number ≡ 1
one_page number fan page there = let it = has_page (new_store fan) number page there in omega (arith, it.0, it.1)

-- the tree of a new store is at rest
pub new_store_at_rest : (fan : ℕ) → IsStoreAtRest (new_store fan)
new_store_at_rest fan = first_at_rest fan (page_of (new_store fan)) refl (λ number page there. one_page number fan page there)

-- the example has three pages
three_pages : (number : ℕ) (fan : ℕ) (page : PlainPage) → page_of (example_store fan) number ≡ Some page → IsMember number (1 ∷ 2 ∷ 3 ∷ [])
three_pages zero fan page there = absurd (cc there)
three_pages (suc zero) fan page there = inl refl
three_pages (suc (suc zero)) fan page there = inr (inl refl)
three_pages (suc (suc (suc zero))) fan page there = inr (inr (inl refl))
three_pages (suc (suc (suc (suc number)))) fan page there =
    let it = has_page (example_store fan) (suc (suc (suc (suc number)))) page there in absurd (omega (arith, it.1))

pub the_example_is_at_rest : ExampleIsAtRest
the_example_is_at_rest fan room =
    let levels = example_levels fan room (page_of (example_store fan)) refl refl refl (λ number page there. three_pages number fan page there) in
    ((_, levels), record { leftmost = 1; is_first = refl; leaves = _; chain = levels.chains.0; joined = refl })
