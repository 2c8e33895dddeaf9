-- Facts for one result of a `post`.
use Rattle.blink_page.specs.declared.post.Post.{Post}
use Rattle.blink_page.specs.declared.post.Post.TheVariants.{Done, Already, Full}

-- the fact, if the separator was posted
abbrev pub OnDone : Post → Type 0 → Type 0
OnDone Done fact = fact
OnDone Already fact = Unit {0}
OnDone Full fact = Unit {0}

-- the fact, if the separator wasn't posted
abbrev pub UnlessDone : Post → Type 0 → Type 0
UnlessDone Done fact = Unit {0}
UnlessDone Already fact = fact
UnlessDone Full fact = fact

-- the fact, if the separator was present
abbrev pub OnAlready : Post → Type 0 → Type 0
OnAlready Done fact = Unit {0}
OnAlready Already fact = fact
OnAlready Full fact = Unit {0}

-- the fact, if the separator was absent
abbrev pub UnlessAlready : Post → Type 0 → Type 0
UnlessAlready Done fact = fact
UnlessAlready Already fact = Unit {0}
UnlessAlready Full fact = fact

-- the fact, if the page was full
abbrev pub OnFull : Post → Type 0 → Type 0
OnFull Done fact = Unit {0}
OnFull Already fact = Unit {0}
OnFull Full fact = fact
