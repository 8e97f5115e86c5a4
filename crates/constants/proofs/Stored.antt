-- A constant whose parts were read and stored, as its contract has it: depth before Full, Full before the head, the row last.
use Prim.Native.Nat.{ℕ, suc, ◌+◌, ◌*◌, ◌-◌, ◌≤◌, ◌<◌}
use mathlib.Core.Path.{◌≡◌, refl, sym, ◌∙◌, ap, subst}
use mathlib.Core.List.{List, ◌++◌, foldl}
use native.Mathlib.Omega.{arith}
use lib.Seq.{sets}
use Rattle.std.proofs.Common.{Ok, Err}
use Rattle.refusal.specs.declared.Refusal.{Refusal}
use Rattle.grammar.specs.declared.Cursor.{Cursor}
use Rattle.grammar.specs.declared.Span.{Span}
use Rattle.grammar.specs.Outcome.{got, refused, pure, refuse, ◌>>=◌}
use Rattle.grammar.specs.Combinators.{Text}
use Rattle.grammar.proofs.Outcome.{got-value, got-next, Twice, bind-got}
use Rattle.tables.specs.Table.{rows}
use Rattle.tables.proofs.Stores.{sets-before}
use Rattle.tables.proofs.Filling.{placed-full, placed-free}
use Rattle.format.specs.Artifact.{behind}
use Rattle.format.specs.File.{constant}
use Rattle.format.specs.Rows.{constant_rows}
use Rattle.constants.specs.declared.heads.Head.{Head}
use Rattle.constants.specs.Parts.{Front, front, head_is, headed, item_behind, item_rows, items, Ab, tail_of, head_row}
use Rattle.constants.specs.Kept.{Kept}
use Rattle.constants.proofs.Keeping.{kept-got, kept-refused, Out, kept_out, kept-no, Answer}
use Rattle.constants.proofs.Joined.{rest, joined}
use Rattle.constants.proofs.Whole.{Made, made, items_refused, tail-refused, turned-refused}

-- the contracts of a constant and of a list of items
abbrev pub KeptConstant : ℕ → ℕ → ℕ → List ℕ → Cursor → Span → List ℕ → List ℕ → Answer → Type 0
KeptConstant places levels used s c key entry exit r =
    Kept (constant places levels used s c) (behind Text levels used) (constant_rows levels key) (used * 8) entry exit r

abbrev pub KeptItems : ℕ → ℕ → Head → ℕ → List ℕ → Cursor → List ℕ → List ℕ → Answer → Type 0
KeptItems places levels h from s c entry exit r =
    Kept (items places levels h.keyed h.items from s c) (foldl (item_behind levels) from) (rows (item_rows levels)) (from * 8) entry exit r

-- the row stored behind its items
row_last : (used : ℕ) (h : Head) (key : Span) (ab : Ab) (words entry mid exit : List ℕ) →
    mid ≡ sets entry ((used + 1) * 8) words → exit ≡ sets mid (used * 8) (head_row h key ab) → exit ≡ sets entry (used * 8) (head_row h key ab ++ words)
row_last used h key ab words entry mid exit m e =
    let next : (used + 1) * 8 ≡ used * 8 + 8 = omega arith in
    rw (e, m, next) (sets-before entry (used * 8) (head_row h key ab) words)

module _ (places levels used : ℕ) (s : List ℕ) (c : Cursor) (key : Span) where
  full : places ≤ used → constant places (suc levels) used s c ≡ refused (Refusal.Full 2)
  full h = joined places levels used s c ∙ placed-full 2 places (front >>= rest places levels used) used s c h

  module _ (free : used < places) where
    opened : constant places (suc levels) used s c ≡ (front >>= rest places levels used) s c
    opened = joined places levels used s c ∙ placed-free 2 places (front >>= rest places levels used) used s c free

    goes_on : (f : Front) (next : Cursor) → front s c ≡ got f next → constant places (suc levels) used s c ≡ rest places levels used f s next
    unfolding ◌>>=◌
    goes_on f next e = opened ∙ rw e

    stops : (r : Refusal) → headed front s c ≡ refused r → constant places (suc levels) used s c ≡ refused r
    unfolding headed ◌>>=◌
    stops r e = opened ∙ rw (turned-refused front head_is s c r e)

    -- with the head as the definition has it
    whole-front : (f : Front) (next : Cursor) → front s c ≡ got f next → (entry mid exit : List ℕ) (k : ℕ) (later : Cursor) (answer : Answer) →
        KeptItems places levels (head_is f) (used + 1) s next entry mid (Ok (k, later)) →
        Kept (tail_of (head_is f) s later) (λ ab. k) (head_row (head_is f) key) (used * 8) mid exit answer →
        KeptConstant places (suc levels) used s c key entry exit answer
    whole-front f next e entry mid exit k later (Ok (n, last)) i t = go (kept_out i) (kept_out t)
      where
        go : Out (items places levels (head_is f).keyed (head_is f).items (used + 1) s next) (foldl (item_behind levels) (used + 1)) (rows (item_rows levels)) ((used + 1) * 8) entry mid k later →
            Out (tail_of (head_is f) s later) (λ ab. k) (head_row (head_is f) key) (used * 8) mid exit n last →
            KeptConstant places (suc levels) used s c key entry exit (Ok (n, last))
        go i t = end (made places levels used s key f next i.value later t.value last i.is t.is)
          where
            end : Made places levels used s key f next i.value t.value last → KeptConstant places (suc levels) used s c key entry exit (Ok (n, last))
            end m =
                kept-got (goes_on f next e ∙ m.is) (m.ends ∙ i.ends ∙ t.ends)
                (row_last used (head_is f) key t.value (rows (item_rows levels) i.value) entry mid exit i.stored t.stored
                ∙ ap (sets entry (used * 8)) (sym m.words))
    whole-front f next e entry mid exit k later (Err r) i t =
        kept-refused (goes_on f next e ∙ tail-refused places levels used s f next (kept_out i).value later r (kept_out i).is (kept-no t))

    whole-refused : (f : Front) (next : Cursor) → front s c ≡ got f next → (entry exit : List ℕ) (r : Refusal) →
        items places levels (head_is f).keyed (head_is f).items (used + 1) s next ≡ refused r →
        KeptConstant places (suc levels) used s c key entry exit (Err r)
    whole-refused f next e entry exit r i = kept-refused (goes_on f next e ∙ items_refused places levels used s key f next r i)

    -- and as the code has it
    pub whole : (h : Head) (next : Cursor) → headed front s c ≡ got h next → (entry mid exit : List ℕ) (k : ℕ) (later : Cursor) (answer : Answer) →
        KeptItems places levels h (used + 1) s next entry mid (Ok (k, later)) →
        Kept (tail_of h s later) (λ ab. k) (head_row h key) (used * 8) mid exit answer →
        KeptConstant places (suc levels) used s c key entry exit answer
    unfolding headed pure
    whole h next e entry mid exit k later answer = go (bind-got front (λ f. pure (head_is f)) s c h next e)
      where
        go : Twice front (λ f. pure (head_is f)) s c h next →
            KeptItems places levels h (used + 1) s next entry mid (Ok (k, later)) →
            Kept (tail_of h s later) (λ ab. k) (head_row h key) (used * 8) mid exit answer →
            KeptConstant places (suc levels) used s c key entry exit answer
        go w =
            subst
            (λ (x : Head). KeptItems places levels x (used + 1) s next entry mid (Ok (k, later)) →
            Kept (tail_of x s later) (λ ab. k) (head_row x key) (used * 8) mid exit answer →
            KeptConstant places (suc levels) used s c key entry exit answer)
            (got-value w.second)
            (whole-front w.value next (w.first ∙ ap (got w.value) (got-next w.second)) entry mid exit k later answer)

    pub no_items : (h : Head) (next : Cursor) → headed front s c ≡ got h next → (entry mid exit : List ℕ) (r : Refusal) →
        KeptItems places levels h (used + 1) s next entry mid (Err r) →
        KeptConstant places (suc levels) used s c key entry exit (Err r)
    unfolding headed pure
    no_items h next e entry mid exit r i = go (bind-got front (λ f. pure (head_is f)) s c h next e) (kept-no i)
      where
        go : Twice front (λ f. pure (head_is f)) s c h next → items places levels h.keyed h.items (used + 1) s next ≡ refused r →
            KeptConstant places (suc levels) used s c key entry exit (Err r)
        go w =
            subst
            (λ (x : Head). items places levels x.keyed x.items (used + 1) s next ≡ refused r →
            KeptConstant places (suc levels) used s c key entry exit (Err r))
            (got-value w.second)
            (whole-refused w.value next (w.first ∙ ap (got w.value) (got-next w.second)) entry exit r)

    pub no-head : (r : Refusal) → headed front s c ≡ refused r → (entry exit : List ℕ) →
        KeptConstant places (suc levels) used s c key entry exit (Err r)
    no-head r e entry exit = kept-refused (stops r e)

  pub no_place : places ≤ used → (entry exit : List ℕ) → KeptConstant places (suc levels) used s c key entry exit (Err (Refusal.Full 2))
  no_place h entry exit = kept-refused (full h)

-- no level left
pub too-deep : (places levels used : ℕ) (s : List ℕ) (c : Cursor) (key : Span) (entry exit : List ℕ) → levels ≡ 0 →
    KeptConstant places levels used s c key entry exit (Err Refusal.ConstantTooDeep)
unfolding constant refuse
too-deep places levels used s c key entry exit e =
    subst (λ (n : ℕ). KeptConstant places n used s c key entry exit (Err Refusal.ConstantTooDeep)) (sym e) (kept-refused refl)

-- a level is left
pub one-level : (places levels used : ℕ) (s : List ℕ) (c : Cursor) (key : Span) (entry exit : List ℕ) (r : Answer) → (levels ≡ 0 → ⊥) →
    KeptConstant places (suc (levels - 1)) used s c key entry exit r → KeptConstant places levels used s c key entry exit r
one-level places levels used s c key entry exit r some k =
    let e : suc (levels - 1) ≡ levels = omega arith in
    subst (λ (n : ℕ). KeptConstant places n used s c key entry exit r) e k
