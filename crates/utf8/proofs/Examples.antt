-- The examples of RFC 3629: the four texts of section 7, and the sequences that sections 3 and 10 call illegal. Each computes.
use mathlib.Core.Path.{◌≡◌, refl}
use mathlib.Core.Bool.{true, false}
use mathlib.Core.List.{[], ◌∷◌}
use Rattle.utf8.specs.Syntax.{UTF8-char}
use Rattle.utf8.specs.Check.{first, next, passes, is_utf8}

not-identical-to-alpha : is_utf8 (0x41 ∷ 0xE2 ∷ 0x89 ∷ 0xA2 ∷ 0xCE ∷ 0x91 ∷ 0x2E ∷ []) ≡ true
unfolding is_utf8 passes next first UTF8-char
not-identical-to-alpha = refl

hangugeo : is_utf8 (0xED ∷ 0x95 ∷ 0x9C ∷ 0xEA ∷ 0xB5 ∷ 0xAD ∷ 0xEC ∷ 0x96 ∷ 0xB4 ∷ []) ≡ true
unfolding is_utf8 passes next first UTF8-char
hangugeo = refl

nihongo : is_utf8 (0xE6 ∷ 0x97 ∷ 0xA5 ∷ 0xE6 ∷ 0x9C ∷ 0xAC ∷ 0xE8 ∷ 0xAA ∷ 0x9E ∷ []) ≡ true
unfolding is_utf8 passes next first UTF8-char
nihongo = refl

stump-of-tree : is_utf8 (0xEF ∷ 0xBB ∷ 0xBF ∷ 0xF0 ∷ 0xA3 ∷ 0x8E ∷ 0xB4 ∷ []) ≡ true
unfolding is_utf8 passes next first UTF8-char
stump-of-tree = refl

overlong-nul : is_utf8 (0xC0 ∷ 0x80 ∷ []) ≡ false
unfolding is_utf8 passes next first UTF8-char
overlong-nul = refl

overlong-dot : is_utf8 (0x2F ∷ 0xC0 ∷ 0xAE ∷ 0x2E ∷ 0x2F ∷ []) ≡ false
unfolding is_utf8 passes next first UTF8-char
overlong-dot = refl

surrogates : is_utf8 (0xED ∷ 0xA1 ∷ 0x8C ∷ 0xED ∷ 0xBE ∷ 0xB4 ∷ []) ≡ false
unfolding is_utf8 passes next first UTF8-char
surrogates = refl
