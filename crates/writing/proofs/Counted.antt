-- The bytes of what tables mean, counted in two halves.
use Prim.Native.Nat.{ℕ, min}
use mathlib.Core.Path.{◌≡◌, refl, ap}
use mathlib.Core.Bool.{Bool}
use native.Mathlib.Omega.{arith}
use lib.ListN.{length}
use Rattle.format.specs.declared.answer.Header.{Header}
use Rattle.written.specs.Put.{put_header}
use Rattle.model.specs.Lent.{Lent}
use Rattle.model.specs.Written.{bytes_of}
use Rattle.emit.specs.Headers.{header_of}
use Rattle.sizes.specs.Counts.{Counts}
use Rattle.sizes.proofs.Laws.{counts-then, counts_same}
use Rattle.writing.specs.Ready.{Ready}
use Rattle.writing.proofs.Rows.{exact}
use Rattle.writing.specs.Halves.{front_of, back_of}
use Rattle.writing.proofs.Joined.{joined}

-- a header is as long as any
pub header-counts : (h : Header) → Counts (put_header (header_of h)) 0 28
header-counts h = record { next = refl }

-- one half behind the other
pub counts-halves : {m : Lent} (stripped : Bool) {mid next : ℕ} → Ready m → Counts (front_of m) 0 mid → Counts (back_of m stripped) mid next →
    next ≡ min (length (bytes_of stripped m)) 1048577
counts-halves {m} stripped {next = next} r p q =
    let all : Counts (bytes_of stripped m) 0 next = counts_same (ap length (joined m stripped (exact r))) (counts-then p q) in
    omega (arith, all.next)
