-- What files are built from: a byte, a run of bytes, tests that take nothing, a choice by tag, a list of records, and the end of the file.
use Rattle.std.specs.Prelude.{ℕ, zero, suc, ◌+◌, ◌*◌, ◌-◌, ◌/◌, ◌%◌, Bool, true, false, List, [], ◌∷◌, ◌++◌, length, get_or, take, drop, leb, ltb, eqb, if◌then◌else◌}
use Rattle.refusal.specs.declared.Refusal.{Refusal}
use Rattle.refusal.specs.declared.Place.{Place}
use Rattle.grammar.specs.declared.Cursor.{Cursor}
use Rattle.grammar.specs.declared.Span.{Span}
use Rattle.grammar.specs.Outcome.{start, advanced, Outcome, got, refused, Parser, after, pure, refuse, ◌>>=◌}

-- n bytes stand from the place on
abbrev pub enough : ℕ → List ℕ → Cursor → Bool
enough n s c = leb (c.at + n) (length s)

-- n bytes are taken, all of them or none; `what` says what they are, of the bytes and the place
unfoldable pub taking : {A : Type 0} → ℕ → (List ℕ → ℕ → A) → Parser A
taking n what s c = if enough n s c then got (what s c.at) (advanced c n) else refused Refusal.Truncated

-- the next byte
unfoldable pub byte : Parser ℕ
byte = taking 1 (λ s at. get_or s at 0)

-- n bytes as a number, low first
abbrev pub low_first : ℕ → List ℕ → ℕ → ℕ
low_first zero s at = 0
low_first (suc n) s at = get_or s at 0 + 256 * low_first n s (at + 1)

unfoldable pub fixed : ℕ → Parser ℕ
fixed n = taking n (low_first n)

-- how they are written
abbrev pub low_bytes : ℕ → ℕ → List ℕ
low_bytes zero v = []
low_bytes (suc n) v = v % 256 ∷ low_bytes n (v / 256)

-- bytes, and where they stand
pub record Text : Type 0 where
  pub span : Span
  pub bytes : List ℕ

abbrev pub text_at : List ℕ → Span → Text
text_at s sp = record { span = sp; bytes = take sp.size (drop sp.start s) }

-- a run of n bytes
unfoldable pub text : ℕ → Parser Text
text n = taking n (λ s at. text_at s (record { start = at; size = n }))

-- the place itself
unfoldable pub place : Parser ℕ
place s c = got c.at c

-- a test that takes nothing
unfoldable pub check : Bool → Refusal → Parser Unit
check true r = pure tt
check false r = refuse r

-- a count above the bytes left is Truncated
unfoldable pub left : ℕ → Parser Unit
left n s c = check (enough n s c) Refusal.Truncated s c

-- a table of cap places, of which some are used, has a free one, else Full
unfoldable pub room : ℕ → ℕ → ℕ → Parser Unit
room table cap used = check (ltb used cap) (Refusal.Full table)

-- by a tag: k ⇒ p ∣ the other tags
infixr 10 ◌⇒◌∣◌
unfoldable pub ◌⇒◌∣◌ : {A : Type 0} → ℕ → Parser A → (ℕ → Parser A) → ℕ → Parser A
◌⇒◌∣◌ k p others tag = if eqb tag k then p else others tag

-- a tag that is none of these
unfoldable pub unknown : {A : Type 0} → Place → ℕ → Parser A
unknown kind tag = refuse (Refusal.UnknownTag kind tag)

-- n records, one after the other; `p used` reads the one that is stored behind the places used, and `next` counts those that it takes
unfoldable pub many : {A S : Type 0} → (S → A → S) → (S → Parser A) → ℕ → S → Parser (List A)
many next p zero used = pure []
many next p (suc n) used = do
  x ← p used
  xs ← many next p n (next used x)
  pure (x ∷ xs)

-- over a list: the bytes that its records are written as, one behind the other, and a fact of each, with the places used before it
abbrev pub put_all : {M : Type 0} → (M → List ℕ) → List M → List ℕ
put_all put [] = []
put_all put (m ∷ ms) = put m ++ put_all put ms

abbrev pub EachFrom : {M S : Type 0} → (S → M → S) → (S → M → Type 0) → S → List M → Type 0
EachFrom next P used [] = Unit
EachFrom next P used (m ∷ ms) = P used m × EachFrom next P (next used m) ms

abbrev pub Each : {M : Type 0} → (M → Type 0) → List M → Type 0
Each P [] = Unit
Each P (m ∷ ms) = P m × Each P ms

-- the end of the file: what is left over is counted
abbrev pub ended : {A : Type 0} → List ℕ → A → Cursor → Outcome A
ended s v next = if eqb next.at (length s) then got v next else refused (Refusal.TrailingBytes (length s - next.at))

-- all of the bytes, from the start to the end
unfoldable pub file : {A : Type 0} → Parser A → List ℕ → Outcome A
file p s = after (p s start) (ended s)
