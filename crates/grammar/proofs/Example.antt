-- The laws of the small format, each from those of the combinators, and what the theorems say of it.
use Prim.Native.Nat.{ℕ, zero, suc, ◌+◌, ◌<◌}
use mathlib.Core.Path.{◌≡◌, refl, sym, ◌∙◌, ap}
use mathlib.Core.List.{List, [], ◌∷◌, ◌++◌, map}
use lib.ListN.{length, take}
use Rattle.refusal.specs.declared.Refusal.{Refusal}
use Rattle.refusal.specs.declared.Place.{Place}
use Rattle.grammar.specs.declared.Cursor.{Cursor}
use Rattle.grammar.specs.Outcome.{start, advanced, Outcome, got, refused, pure, refuse, ◌>>=◌}
use Rattle.grammar.specs.Combinators.{file, taking, byte, check, room, ◌⇒◌∣◌, unknown, many, put_all, Each}
use Rattle.grammar.specs.Number.{groups, number}
use Rattle.grammar.specs.Prefix.{Whole}
use Rattle.grammar.specs.RoundTrip.{Gives, Read}
use Rattle.grammar.specs.Example.{leaf, branch, Tree, behind, tree, trees, put_tree, put_trees, Fit, FitAll}
use Rattle.grammar.proofs.Prefix.{whole-rules, whole-refuse}
use Rattle.grammar.proofs.Torn.{front-is-truncated, more-is-trailing}
use Rattle.grammar.proofs.RoundTrip.{itself, gives-last, gives-room-then, gives-byte-then, gives-tag, gives-other-tag, gives-many}
use Rattle.grammar.proofs.Number.{gives-number, gives-number-then}
use Rattle.grammar.proofs.Written.{read_back, same-output, no_front}

pub whole-tree : (cap depth used : ℕ) → Whole (tree cap depth used)
unfolding tree
whole-tree cap zero used = whole-refuse _
whole-tree cap (suc depth) used = let inner = whole-tree cap depth in search whole-rules depth 30

pub whole-trees : (cap : ℕ) → Whole (trees cap)
unfolding trees
whole-trees cap = let inner = whole-tree cap 4 in search whole-rules depth 30

-- a list of what means itself means itself
map-itself : {A : Type 0} (xs : List A) → map itself xs ≡ xs
map-itself [] = refl
map-itself (x ∷ xs) = ap (λ l. x ∷ l) (map-itself xs)

pub gives-tree : {s : List ℕ} (cap depth : ℕ) (t : Tree depth) (used : ℕ) → Fit cap depth used t →
    Gives itself s (tree cap depth used) (put_tree depth t) t
unfolding tree put_tree
gives-tree cap zero t used fit = absurd fit
gives-tree cap (suc depth) (leaf n) used fit =
    gives-room-then 1 _ fit.0
    (gives-byte-then _ 1 (gives-tag _ 1 (gives-last leaf n (gives-number 64 n fit.1 fit.1) (λ v e. ap leaf e))))
gives-tree cap (suc depth) (branch ts) used fit =
    gives-room-then 1 _ fit.0
    (gives-byte-then _ 2 (gives-other-tag _ _ 1 2 refl (gives-tag _ 2
    (gives-number-then (put_all (put_tree depth) ts) _ 64 (length ts) fit.1 fit.1
    (gives-last branch ts
    (gives-many itself (behind depth) (behind depth) (tree cap depth) (put_tree depth) (Fit cap depth) (λ used v. refl) (gives-tree cap depth) ts (used + 1) fit.2)
    (λ v e. ap branch (sym (map-itself v) ∙ e)))))))

pub gives-trees : {s : List ℕ} (cap : ℕ) (ts : List (Tree 4)) → FitAll cap ts → Gives (map itself) s (trees cap) (put_trees ts) ts
unfolding trees put_trees
gives-trees cap ts fit =
    gives-number-then (put_all (put_tree 4) ts) _ 64 (length ts) fit.0 fit.0
    (gives-many itself (behind 4) (behind 4) (tree cap 4) (put_tree 4) (Fit cap 4) (λ used v. refl) (gives-tree cap 4) ts 0 fit.1)

-- ── the five theorems, of this format ──

pub front-of-trees : (cap : ℕ) (s : List ℕ) (ts : List (Tree 4)) (last : Cursor) → file (trees cap) s ≡ got ts last →
    (k : ℕ) → k < length s → file (trees cap) (take k s) ≡ refused Refusal.Truncated
front-of-trees cap = front-is-truncated (whole-trees cap)

pub more-behind-trees : (cap : ℕ) (s : List ℕ) (ts : List (Tree 4)) (last : Cursor) → file (trees cap) s ≡ got ts last →
    (t : List ℕ) → 0 < length t → file (trees cap) (s ++ t) ≡ refused (Refusal.TrailingBytes (length t))
more-behind-trees cap = more-is-trailing (whole-trees cap)

module _ (cap : ℕ) where
  pub trees-read-back : (ts : List (Tree 4)) → FitAll cap ts → Read (map itself) (file (trees cap) (put_trees ts)) start (length (put_trees ts)) ts
  trees-read-back = read_back (map itself) (trees cap) (FitAll cap) put_trees (λ ts fit s. gives-trees cap ts fit)

  pub same-trees : (ts us : List (Tree 4)) → FitAll cap ts → FitAll cap us → put_trees ts ≡ put_trees us → ts ≡ us
  same-trees = same-output (map itself) (trees cap) (FitAll cap) put_trees (λ ts fit s. gives-trees cap ts fit)

  pub no-front-of-trees : (ts us : List (Tree 4)) → FitAll cap ts → FitAll cap us → (t : List ℕ) → put_trees ts ++ t ≡ put_trees us → t ≡ []
  no-front-of-trees = no_front (map itself) (trees cap) (FitAll cap) put_trees (λ ts fit s. gives-trees cap ts fit)

-- ── it computes: a branch of two leaves; no place for the second; cut short; one byte more; an unknown tag; a fifth level ──

record Case : Type 0 where
  places : ℕ
  bytes : List ℕ
  outcome : Outcome (List (Tree 4))

Holds : Case → Type 0
Holds c = file (trees c.places) c.bytes ≡ c.outcome

cases : List Case
cases =
    record { places = 3; bytes = 1 ∷ 2 ∷ 2 ∷ 1 ∷ 7 ∷ 1 ∷ 128 ∷ 1 ∷ []; outcome = got (branch (leaf 7 ∷ leaf 128 ∷ []) ∷ []) (advanced start 8) }
    ∷ record { places = 2; bytes = 1 ∷ 2 ∷ 2 ∷ 1 ∷ 7 ∷ 1 ∷ 128 ∷ 1 ∷ []; outcome = refused (Refusal.Full 1) }
    ∷ record { places = 3; bytes = 1 ∷ 2 ∷ 2 ∷ 1 ∷ 7 ∷ 1 ∷ 128 ∷ []; outcome = refused Refusal.Truncated }
    ∷ record { places = 3; bytes = 1 ∷ 1 ∷ 7 ∷ 9 ∷ []; outcome = refused (Refusal.TrailingBytes 1) }
    ∷ record { places = 3; bytes = 1 ∷ 5 ∷ []; outcome = refused (Refusal.UnknownTag Place.Constant 5) }
    ∷ record { places = 9; bytes = 1 ∷ 2 ∷ 1 ∷ 2 ∷ 1 ∷ 2 ∷ 1 ∷ 2 ∷ 1 ∷ 1 ∷ 0 ∷ []; outcome = refused Refusal.ConstantTooDeep }
    ∷ []

all_hold : Each Holds cases
unfolding cases Holds trees tree file many number groups byte taking check room unknown ◌⇒◌∣◌ ◌>>=◌ pure refuse
all_hold = (refl, (refl, (refl, (refl, (refl, (refl, tt))))))
