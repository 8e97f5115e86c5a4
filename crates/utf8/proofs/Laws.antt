-- Laws of the test: text joined to text is text, what is refused stays refused, and a byte of ASCII is a character of its own.
-- Each goes by induction on the bytes. Assumes nothing.
use mathlib.Core.Path.{◌≡◌, refl}
use mathlib.Core.Bool.{true, false}
use mathlib.Core.List.{List, [], ◌∷◌, ◌++◌}
use Prim.Native.Nat.{ℕ, ◌<◌}
use native.Mathlib.Omega.{arith}
use borrow.Author.Tests.{le-leb}
use Rattle.utf8.specs.Syntax.{UTF8-char}
use Rattle.utf8.specs.Check.{State, owes, refused, first, next, passes, is_utf8}

pub nothing-is-text : is_utf8 [] ≡ true
unfolding is_utf8 passes
nothing-is-text = refl

pub passes_append : (state : State) (s t : List ℕ) → passes state s ≡ true → passes state (s ++ t) ≡ is_utf8 t
unfolding is_utf8 passes
passes_append (owes []) [] t h = refl
passes_append (owes (range ∷ row)) [] t h = cc
passes_append refused [] t h = cc
passes_append state (b ∷ s) t h = passes_append (next state b) s t h

pub refused-stays : (s : List ℕ) → passes refused s ≡ false
unfolding passes next
refused-stays [] = refl
refused-stays (b ∷ s) = refused-stays s

pub text-append : (s t : List ℕ) → is_utf8 s ≡ true → is_utf8 (s ++ t) ≡ is_utf8 t
unfolding is_utf8
text-append s t h = passes_append (owes []) s t h

pub ascii-next : (b : ℕ) → b < 128 → next (owes []) b ≡ owes []
unfolding next first UTF8-char
ascii-next b h = rw (le-leb 0 b (omega arith), le-leb b 0x7F (omega arith))

pub ascii-text : (b : ℕ) (s : List ℕ) → b < 128 → is_utf8 (b ∷ s) ≡ is_utf8 s
unfolding is_utf8 passes
ascii-text b s h = rw (ascii-next b h)
