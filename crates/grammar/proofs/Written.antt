-- For any writer whose outputs a parser gives back: what was written is read back, equal outputs come only from equal values, and no output is a front of another.
use Prim.Native.Nat.{ℕ, ◌+◌, zero-le}
use mathlib.Core.Path.{◌≡◌, refl, sym, ◌∙◌, ap, subst}
use mathlib.Core.List.{List, [], ◌∷◌, ◌++◌, append-nil}
use native.Mathlib.Nat.{zero-add}
use native.Mathlib.Omega.{arith}
use lib.ListN.{length, length-append}
use borrow.Author.Tests.{eq-eqb}
use Rattle.grammar.specs.declared.Cursor.{Cursor}
use Rattle.grammar.specs.Outcome.{start, advanced, Outcome, got, Parser}
use Rattle.grammar.specs.Combinators.{file}
use Rattle.grammar.specs.RoundTrip.{Stands, Read, Gives}
use Rattle.grammar.proofs.Outcome.{got-value, got-next}

-- every output of `write` is given back by p, wherever it stands in whatever file
abbrev pub Writes : {A M : Type 0} → (A → M) → Parser A → (M → Type 0) → (M → List ℕ) → Type 0
Writes {M = M} mean p Ok write = (m : M) → Ok m → (s : List ℕ) → Gives mean s p (write m) m

-- w stands at the front of w ++ t
at_front : (w t : List ℕ) → Stands w (w ++ t) start.at
at_front w t = record { post = t; fits = zero-le; found = refl }

-- one outcome is read as one value, up to one place
one-reading : {A M : Type 0} {mean : A → M} {o : Outcome A} {c : Cursor} {i j : ℕ} {m n : M} → Read mean o c i m → Read mean o c j n →
    (m ≡ n) × (advanced c i ≡ advanced c j)
one-reading {mean = mean} {o} {c} {i} {j} r q =
    let e : got r.value (advanced c i) ≡ got q.value (advanced c j) = sym r.result ∙ q.result in
    (sym r.means ∙ ap mean (got-value e) ∙ q.means, got-next e)

module _ {A M : Type 0} (mean : A → M) (p : Parser A) (Ok : M → Type 0) (write : M → List ℕ) (writes : Writes mean p Ok write) where
  -- an output in front of any bytes is read, and no more of them
  front_read : (m : M) → Ok m → (t : List ℕ) → Read mean (p (write m ++ t) start) start (length (write m)) m
  front_read m ok t = (writes m ok (write m ++ t)).reads start (at_front (write m) t)

  -- what was written is read back
  pub read_back : (m : M) → Ok m → Read mean (file p (write m)) start (length (write m)) m
  unfolding file
  read_back m ok =
      let r = subst (λ (s : List ℕ). Read mean (p s start) start (length (write m)) m) (append-nil (write m)) (front_read m ok []) in
      record { value = r.value; means = r.means; result = rw (r.result, eq-eqb _ _ (zero-add (length (write m)))) }

  -- two outputs of which one is a front of the other: the values are equal, and so are the outputs
  one-in-front : (m n : M) → Ok m → Ok n → (t : List ℕ) → write m ++ t ≡ write n → (m ≡ n) × (t ≡ [])
  one-in-front m n okm okn t e = (once.0, no-rest t same_length)
    where
      left : Read mean (p (write n) start) start (length (write m)) m
      left = subst (λ (s : List ℕ). Read mean (p s start) start (length (write m)) m) e (front_read m okm t)

      right : Read mean (p (write n) start) start (length (write n)) n
      right = subst (λ (s : List ℕ). Read mean (p s start) start (length (write n)) n) (append-nil (write n)) (front_read n okn [])

      once : (m ≡ n) × (advanced start (length (write m)) ≡ advanced start (length (write n)))
      once = one-reading left right

      same_length : length (write m) ≡ length (write m ++ t)
      same_length =
          let l : 0 + length (write m) ≡ 0 + length (write n) = ap (λ (c : Cursor). c.at) once.1 in
          omega (arith, ap length e)

      no-rest : (t : List ℕ) → length (write m) ≡ length (write m ++ t) → t ≡ []
      no-rest [] l = refl
      no-rest (x ∷ t) l = absurd (omega (arith, length-append (write m) (x ∷ t)))

  -- equal outputs only for equal values
  pub same-output : (m n : M) → Ok m → Ok n → write m ≡ write n → m ≡ n
  same-output m n okm okn e = (one-in-front m n okm okn [] (append-nil (write m) ∙ e)).0

  -- no output is a front of a longer other
  pub no_front : (m n : M) → Ok m → Ok n → (t : List ℕ) → write m ++ t ≡ write n → t ≡ []
  no_front m n okm okn t e = (one-in-front m n okm okn t e).1
