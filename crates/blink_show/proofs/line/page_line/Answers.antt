use Rattle.std.proofs.Common.{◌≡◌, ◌++◌, ◌∙◌, ℕ, List, Option, ap, append_assoc, codes, string_bytes, rules}
use Rattle.std.specs.Fmt.{decimal}
use Rattle.std.specs.List.{flat_map}
use Rattle.blink_index.specs.{entry_text, words_of}
use Rattle.blink_show.specs.Lines.{words_of_page}
use Rattle.blink_show.proofs.line.page_line.Goals as goal

-- three texts, each added behind what was there
joined : (number holder page entries line one two three : List ℕ) → line ≡ codes "page " ++ (number ++ (codes " " ++ (holder ++ codes " "))) → one ≡ line ++ page → two ≡ one ++ entries → three ≡ two ++ codes "\n"
    → three ≡ codes "page " ++ (number ++ (codes " " ++ (holder ++ (codes " " ++ (page ++ (entries ++ codes "\n"))))))
joined number holder page entries line one two three to_line to_one to_two to_three =
    let start = codes "page " ++ (number ++ (codes " " ++ (holder ++ codes " "))) in
    let rest = page ++ (entries ++ codes "\n") in
    rw (to_three, to_two, to_one, to_line)
    (append_assoc (start ++ page) entries (codes "\n")
    ∙ append_assoc start page (entries ++ codes "\n")
    ∙ ap (λ (text : List ℕ). codes "page " ++ text) (append_assoc number (codes " " ++ (holder ++ codes " ")) rest ∙ ap (λ (text : List ℕ). number ++ (codes " " ++ text)) (append_assoc holder (codes " ") rest)))

pub returns : goal.returns
returns c =
    let page = c.args.page.now in
    let same : c.map.result ≡ c.args.holder = search rules in
    let entries : string_bytes c.push_entries.new.text ≡ string_bytes c.push_page.new.line ++ flat_map entry_text page.entries = search rules in
    joined (decimal c.args.number) (words_of c.args.holder) (words_of_page page) (flat_map entry_text page.entries) (string_bytes c.in_ok-line.line) (string_bytes c.push_page.new.line) (string_bytes c.push_entries.new.text) (string_bytes c.push_str.new.self)
    (rw same at c.in_ok-line.ensures.ok) c.in_ok-push_page.ensures entries c.in_ok-push_str.ensures.bytes
