-- A parser: from the bytes and a place to what was read and the next place, or to the first refusal.
use Rattle.std.specs.Prelude.{ℕ, ◌+◌, List}
use Rattle.refusal.specs.declared.Refusal.{Refusal}
use Rattle.grammar.specs.declared.Cursor.{Cursor}

-- where reading begins
abbrev pub start : Cursor
start = record { at = 0 }

-- n bytes on
abbrev pub advanced : Cursor → ℕ → Cursor
advanced c n = record { at = c.at + n }

pub data Outcome (A : Type 0) : Type 0 where
  got : A → Cursor → Outcome A
  refused : Refusal → Outcome A

abbrev pub Parser : Type 0 → Type 0
Parser A = List ℕ → Cursor → Outcome A

-- go on with what was got; a refusal stays
abbrev pub after : {A B : Type 0} → Outcome A → (A → Cursor → Outcome B) → Outcome B
after (got v next) f = f v next
after (refused r) f = refused r

-- takes nothing and gives v
unfoldable pub pure : {A : Type 0} → A → Parser A
pure v s c = got v c

unfoldable pub refuse : {A : Type 0} → Refusal → Parser A
refuse r s c = refused r

-- one after the other: what `do` stands for
infixl 20 ◌>>=◌
unfoldable pub ◌>>=◌ : {A B : Type 0} → Parser A → (A → Parser B) → Parser B
◌>>=◌ p f s c = after (p s c) (λ v next. f v s next)

infixl 20 ◌>>◌
abbrev pub ◌>>◌ : {A B : Type 0} → Parser A → Parser B → Parser B
p >> q = p >>= (λ _. q)
