-- Lists of sites: how three slices make one, and what the two passes come to over it.
use Rattle.std.proofs.Common.{◌≡◌, Ok, Err, ℕ, zero, suc, ◌+◌, ◌-◌, ◌*◌, ◌<◌, ◌≤◌, List, [], ◌∷◌, ◌++◌, length, get_or, drop, sym, refl, ap, ◌∙◌, append_assoc, zero-le, zero-add, add-one, arith, length-append, drop_of_length-le, drop-cons, le-ltb, lt-ltb, le-leb, eq-eqb, ne_eqb}
use lib.Seq.{sets, length-sets}
use borrow.Author.Tests.{lt-leb}
use Rattle.refusal.specs.declared.Refusal.{Refusal}
use Rattle.grammar.specs.Number.{shortest}
use Rattle.position_table.specs.declared.Site.{Site}
use Rattle.pos.specs.declared.encoding.Measured.{Measured}
use Rattle.position_table.specs.Table.{Previous, none, earlier}
use Rattle.position_table.specs.Encode.{sites_of, kept, Order, ascending, offence, order, entries_of, bytes_of, room_for, ordered, encoded, encoded_bytes}
use Rattle.pos.specs.Passes.{entry_of, in_order, all_of, measured_of}
use Rattle.pos.proofs.Puts.{entry-small, sets-append}

-- ── three slices ──

-- as many as the shortest has
pub sites-within : (a l c : List ℕ) → (length (sites_of a l c) ≤ length a) × ((length (sites_of a l c) ≤ length l) × (length (sites_of a l c) ≤ length c))
unfolding sites_of
sites-within [] l c = (zero-le, (zero-le, zero-le))
sites-within (x ∷ a) [] c = (zero-le, (zero-le, zero-le))
sites-within (x ∷ a) (y ∷ l) [] = (zero-le, (zero-le, zero-le))
sites-within (x ∷ a) (y ∷ l) (z ∷ c) = let h = sites-within a l c in (omega (arith, h.0), (omega (arith, h.1.0), omega (arith, h.1.1)))

pub sites-length : (a l c : List ℕ) (n : ℕ) → n ≤ length a → n ≤ length l → n ≤ length c → n ≤ length (sites_of a l c)
unfolding sites_of
sites-length [] l c n ha hl hc = omega arith
sites-length (x ∷ a) [] c n ha hl hc = omega arith
sites-length (x ∷ a) (y ∷ l) [] n ha hl hc = omega arith
sites-length (x ∷ a) (y ∷ l) (z ∷ c) n ha hl hc = omega (arith, sites-length a l c (n - 1) (omega arith) (omega arith) (omega arith))

pub sites_at : (a l c : List ℕ) (i : ℕ) (d : Site) → i < length (sites_of a l c) →
    get_or (sites_of a l c) i d ≡ record { address = get_or a i 0; line = get_or l i 0; column = get_or c i 0 }
unfolding sites_of
sites_at [] l c i d h = absurd (omega arith)
sites_at (x ∷ a) [] c i d h = absurd (omega arith)
sites_at (x ∷ a) (y ∷ l) [] i d h = absurd (omega arith)
sites_at (x ∷ a) (y ∷ l) (z ∷ c) zero d h = refl
sites_at (x ∷ a) (y ∷ l) (z ∷ c) (suc i) d h = sites_at a l c i d (omega arith)

-- ── a list from a place on ──

-- what is kept of it, by the site that stands there
module _ (sites : List Site) (i : ℕ) (site : Site) (h : i < length sites) (is : site ≡ get_or sites i site) where
  there : drop i sites ≡ site ∷ drop (i + 1) sites
  there = rw (add-one i) (drop-cons sites i site h ∙ ap (λ (x : Site). x ∷ drop (suc i) sites) (sym is))

  pub kept_dropped : site.line ≡ 0 → kept (drop i sites) ≡ kept (drop (i + 1) sites)
  unfolding kept
  kept_dropped e = rw (there, eq-eqb site.line 0 e)

  pub kept_more : (site.line ≡ 0 → ⊥) → kept (drop i sites) ≡ site ∷ kept (drop (i + 1) sites)
  unfolding kept
  kept_more line = rw (there, ne_eqb site.line 0 line)

pub kept_none : (sites : List Site) (i : ℕ) → length sites ≤ i → kept (drop i sites) ≡ []
unfolding kept
kept_none sites i h = rw (drop_of_length-le sites h)

entries-split : (previous : ℕ) (site : Site) (sites : List Site) → entries_of previous (site ∷ sites) ≡ entry_of previous site ++ entries_of site.address sites
unfolding entries_of entry_of
entries-split previous site sites = simp append_assoc

pub entries-cons : (previous : ℕ) (site : Site) (sites : List Site) →
    length (entries_of previous (site ∷ sites)) ≡ length (entry_of previous site) + length (entries_of site.address sites)
entries-cons previous site sites = rw (entries-split previous site sites) (length-append (entry_of previous site) (entries_of site.address sites))

entries_none : (previous : ℕ) → entries_of previous [] ≡ []
unfolding entries_of
entries_none previous = refl

-- ── the first pass ──

-- the address before: none where no site is kept yet, and steps then count from 0
pub data Behind : Previous → ℕ → ℕ → Type 0 where
  behind_none : Behind none 0 0
  behind_one : (n address : ℕ) → Behind (earlier address) (suc n) address

-- of the sites in front so many are kept, and what is left to do makes the whole
pub record Measuring (sites : List Site) (i n size previous : ℕ) : Type 0 where
  pub few : n ≤ i
  pub small : size ≤ 30 * i
  pub before : Previous
  pub behind : Behind before n previous
  pub order : order none (kept sites) ≡ order before (kept (drop i sites))
  pub count : length (kept sites) ≡ n + length (kept (drop i sites))
  pub bytes : length (entries_of 0 (kept sites)) ≡ size + length (entries_of previous (kept (drop i sites)))

pub measuring_none : (sites : List Site) → Measuring sites 0 0 0 0
measuring_none sites =
    record { few = zero-le; small = zero-le; before = none; behind = behind_none; order = refl; count = sym (zero-add _); bytes = sym (zero-add _) }

ordered_more : {p : Previous} {n previous : ℕ} → Behind p n previous → (site : Site) (sites : List Site) → previous < site.address →
    order p (site ∷ sites) ≡ order (earlier site.address) sites
unfolding order
ordered_more behind_none site sites h = refl
ordered_more (behind_one n address) site sites h = rw (lt-ltb address site.address h)

ordered_first : {p : Previous} {n previous : ℕ} → Behind p n previous → (site : Site) (sites : List Site) → n ≡ 0 →
    order p (site ∷ sites) ≡ order (earlier site.address) sites
unfolding order
ordered_first behind_none site sites z = refl
ordered_first (behind_one n address) site sites z = absurd (omega arith)

ordered_falls : {p : Previous} {n previous : ℕ} → Behind p n previous → (site : Site) (sites : List Site) → (n ≡ 0 → ⊥) → site.address ≤ previous →
    order p (site ∷ sites) ≡ offence site.address previous
unfolding order
ordered_falls behind_none site sites some h = absurd (some refl)
ordered_falls (behind_one n address) site sites some h = rw (le-ltb address site.address h)

module _ {sites : List Site} {i n size previous : ℕ} (g : Measuring sites i n size previous) where
  module _ (site : Site) (h : i < length sites) (is : site ≡ get_or sites i site) where
    pub measuring_dropped : site.line ≡ 0 → Measuring sites (i + 1) n size previous
    measuring_dropped e =
        let same = kept_dropped sites i site h is e in
        record {
          few = omega (arith, g.few);
          small = omega (arith, g.small);
          before = g.before;
          behind = g.behind;
          order = rw (← same) g.order;
          count = rw (← same) g.count;
          bytes = rw (← same) g.bytes;
        }

    module _ (line : site.line ≡ 0 → ⊥) where
      more : kept (drop i sites) ≡ site ∷ kept (drop (i + 1) sites)
      more = kept_more sites i site h is line

      grown : order g.before (site ∷ kept (drop (i + 1) sites)) ≡ order (earlier site.address) (kept (drop (i + 1) sites)) →
          Measuring sites (i + 1) (n + 1) (size + length (entry_of previous site)) site.address
      grown o =
          record {
            few = omega (arith, g.few);
            small = omega (arith, g.small, entry-small previous site);
            before = earlier site.address;
            behind = rw (add-one n) (behind_one n site.address);
            order = (rw more at g.order) ∙ o;
            count = let k = rw more at g.count in omega (arith, k);
            bytes = let k = rw more at g.bytes in omega (arith, k, entries-cons previous site (kept (drop (i + 1) sites)));
          }

      pub measuring_first : n ≡ 0 → Measuring sites (i + 1) (n + 1) (size + length (entry_of previous site)) site.address
      measuring_first z = grown (ordered_first g.behind site (kept (drop (i + 1) sites)) z)

      pub measuring_more : previous < site.address → Measuring sites (i + 1) (n + 1) (size + length (entry_of previous site)) site.address
      measuring_more up = grown (ordered_more g.behind site (kept (drop (i + 1) sites)) up)

      pub measuring_falls : (n ≡ 0 → ⊥) → site.address ≤ previous → Err (Refusal.NotAscending site.address previous) ≡ measured_of sites
      unfolding measured_of
      measuring_falls some down = rw (g.order, more, ordered_falls g.behind site (kept (drop (i + 1) sites)) some down)

  order_ended : (p : Previous) → order p [] ≡ ascending
  unfolding order
  order_ended none = refl
  order_ended (earlier address) = refl

  pub measuring_all : length sites ≤ i → Ok (record { kept = n; size = length (shortest n) + size }) ≡ measured_of sites
  unfolding measured_of bytes_of
  measuring_all h =
      let none_left = kept_none sites i h in
      let count : length (kept sites) ≡ n = (rw none_left at g.count) ∙ omega arith in
      let bytes : length (entries_of 0 (kept sites)) ≡ size = (rw (none_left, entries_none previous) at g.bytes) ∙ omega arith in
      rw (g.order, none_left, order_ended g.before, length-append (shortest (length (kept sites))) (entries_of 0 (kept sites)), count, bytes)

-- ── the second pass ──

-- the count is the front of the bytes
pub count_fits : (sites : List Site) {n : ℕ} (room : ℕ) → n ≡ length (kept sites) → length (bytes_of (kept sites)) ≤ room → length (shortest n) ≤ room
unfolding bytes_of
count_fits sites room e h = rw e (omega (arith, h, length-append (shortest (length (kept sites))) (entries_of 0 (kept sites))))

pub record Writing (sites : List Site) (out₀ : List ℕ) (i at previous : ℕ) (out : List ℕ) : Type 0 where
  pub same : length out ≡ length out₀
  pub room : at + length (entries_of previous (kept (drop i sites))) ≤ length out
  pub rest : sets out at (entries_of previous (kept (drop i sites))) ≡ sets out₀ 0 (bytes_of (kept sites))

pub writing_none : (sites : List Site) (out₀ : List ℕ) {n at : ℕ} {out : List ℕ} → n ≡ length (kept sites) → length (bytes_of (kept sites)) ≤ length out₀ →
    at ≡ 0 + length (shortest n) → out ≡ sets out₀ 0 (shortest n) → Writing sites out₀ 0 at 0 out
unfolding bytes_of
writing_none sites out₀ {n} count room e o =
    record {
      same = rw o (length-sets out₀ 0 (shortest n));
      room = rw (o, e, count) (omega (arith, room, length-sets out₀ 0 (shortest (length (kept sites))), length-append (shortest (length (kept sites))) (entries_of 0 (kept sites))));
      rest = rw (o, e, count, sets-append out₀ 0 (shortest (length (kept sites))) (entries_of 0 (kept sites)));
    }

module _ {sites : List Site} {out₀ : List ℕ} {i at previous : ℕ} {out : List ℕ} (g : Writing sites out₀ i at previous out) where
  module _ (site : Site) (h : i < length sites) (is : site ≡ get_or sites i site) where
    pub writing_dropped : site.line ≡ 0 → Writing sites out₀ (i + 1) at previous out
    writing_dropped e =
        let same = kept_dropped sites i site h is e in
        record { same = g.same; room = rw (← same) g.room; rest = rw (← same) g.rest }

    module _ (line : site.line ≡ 0 → ⊥) where
      left_is : kept (drop i sites) ≡ site ∷ kept (drop (i + 1) sites)
      left_is = kept_more sites i site h is line

      pub writing_room : at + length (entry_of previous site) ≤ length out
      writing_room =
          let k = rw left_is at g.room in
          omega (arith, k, entries-cons previous site (kept (drop (i + 1) sites)))

      pub writing_more : {next : ℕ} {out₁ : List ℕ} → next ≡ at + length (entry_of previous site) → out₁ ≡ sets out at (entry_of previous site) →
          Writing sites out₀ (i + 1) next site.address out₁
      writing_more e o =
          let size = length-sets out at (entry_of previous site) in
          let k = rw left_is at g.room in
          record {
            same = rw o (size ∙ g.same);
            room = rw (o, e, size) (omega (arith, k, entries-cons previous site (kept (drop (i + 1) sites))));
            rest = rw (o, e, ← sets-append out at (entry_of previous site) (entries_of site.address (kept (drop (i + 1) sites))), ← entries-split previous site (kept (drop (i + 1) sites)), ← left_is) g.rest;
          }

  pub writing_all : length sites ≤ i → out ≡ sets out₀ 0 (bytes_of (kept sites))
  writing_all h = rw (kept_none sites i h, entries_none previous) at g.rest

-- ── what is answered ──

-- the answer of the first pass, whatever the room
module _ (sites : List Site) (few : length sites ≤ 262144) where
  module _ {r : Refusal} (e : measured_of sites ≡ Err r) (room : ℕ) where
    pub encoded_refused : Err r ≡ encoded sites room
    unfolding measured_of encoded
    encoded_refused = rw (le-ltb 262144 (length sites) few) (go (order none (kept sites)) e)
      where
        go : (o : Order) → in_order o (all_of sites) ≡ Err r → Err r ≡ ordered o (room_for (length (bytes_of (kept sites))) room)
        go ascending is = cc
        go (offence address before) is = cc

  module _ {m : Measured} (e : measured_of sites ≡ Ok m) where
    found : (o : Order) → in_order o (all_of sites) ≡ Ok m → (o ≡ ascending) × (all_of sites ≡ m)
    found ascending is = (refl, cc)
    found (offence address before) is = cc

    pub measured_is : (order none (kept sites) ≡ ascending) × (all_of sites ≡ m)
    unfolding measured_of
    measured_is = found (order none (kept sites)) e

    pub encoded_no_room : (room : ℕ) → room < m.size → Err (Refusal.NoRoom m.size) ≡ encoded sites room
    unfolding encoded
    encoded_no_room room h =
        rw (le-ltb 262144 (length sites) few, measured_is.0, ap (λ (n : Measured). n.size) measured_is.1, lt-leb m.size room h)

    pub encoded_done : (room : ℕ) → m.size ≤ room → Ok m.size ≡ encoded sites room
    unfolding encoded
    encoded_done room h =
        rw (le-ltb 262144 (length sites) few, measured_is.0, ap (λ (n : Measured). n.size) measured_is.1, le-leb m.size room h)

pub encoded_long : (sites : List Site) (room : ℕ) → 262144 < length sites → Err (Refusal.TooLong (length sites)) ≡ encoded sites room
unfolding encoded
encoded_long sites room h = rw (lt-ltb 262144 (length sites) h)

-- and what the bytes then are
module _ (sites : List Site) (out : List ℕ) where
  pub bytes_refused : {r : Refusal} → Err r ≡ encoded sites (length out) → out ≡ encoded_bytes sites out
  unfolding encoded_bytes
  bytes_refused e = rw (← e)

  pub bytes_done : {n : ℕ} → Ok n ≡ encoded sites (length out) → sets out 0 (bytes_of (kept sites)) ≡ encoded_bytes sites out
  unfolding encoded_bytes
  bytes_done e = rw (← e)
