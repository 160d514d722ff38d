use Rattle.std.proofs.Common.{arith, ap, ◌+◌, ◌≡◌, length, ℕ}
use Rattle.store.specs.Table.{part}
use Rattle.store.proofs.Lists.{rest}
use Rattle.store.proofs.Parts.{length-part}
use Rattle.store.proofs.SearchLaws.{found_is}
use Rattle.store.proofs.guards.find.Goals as goal

pub returns-clause-found : goal.returns-clause-found
unfolding part
returns-clause-found c =
    let a = c.args in
    let l : length (part 256 a.store.now) ≡ 256 = length-part 256 a.store.now (omega (arith, c.told-store)) in
    let s = c.starts-starts.ensures in
    let k = rw (s, rest (part 256 a.store.now) 256 l (a.from + 1)) at c.count_begun.ensures.count in
    rw s
    (found_is a.store.now a.from a.entry _ _ (ap (λ (x : ℕ). a.from + x) k) (omega arith) (rw s at c.last_entry.ensures))
