use Rattle.std.proofs.Common.{arith, ◌∙◌, ◌≡◌, ◌+◌, ◌-◌, ◌≤◌, length}
use Rattle.store.proofs.Columns.{moved, cleared, cleared_none, cleared_put, spliced_put}
use Rattle.store.proofs.guards.splice.Goals as goal
use Rattle.store.proofs.guards.splice.Goals.{then-end-cut, else-end-cut}

-- the words behind the cut follow the new ones
followed : (c : goal.After-slice_known-3-1) (i : c.args.cut.end ≤ c.args.cut.used) (j : c.args.cut.used ≤ length c.args.column.now) (h : c.args.cut.start + length c.args.new.now + (c.args.cut.used - c.args.cut.end) ≤ length c.args.column.now) → c.copy_within.new.self ≡ moved c.args.column.now c.args.new.now c.args.cut.start c.args.cut.end c.args.cut.used i j h
followed c i j h = c.copy_within.ensures.after

-- zeros come after those
over : (c : goal.After-slice_known-3-1) (i : c.args.cut.end ≤ c.args.cut.used) (j : c.args.cut.used ≤ length c.args.column.now) (h : c.args.cut.start + length c.args.new.now + (c.args.cut.used - c.args.cut.end) ≤ length c.args.column.now) → c.if-end-cut.column ≡ cleared c.args.column.now c.args.new.now c.args.cut.start c.args.cut.end c.args.cut.used i j h
over c i j h =
    let l = c.args.column.now in
    let xs = c.args.new.now in
    let a = c.args.cut.start in
    let b = c.args.cut.end in
    let n = c.args.cut.used in
    let m = followed c i j h in
    elim c.if-end-cut.branch [
      | then-end-cut w ↦ w.column-is ∙ rw m (cleared_put l xs a b n i j h _ (rw m at (w.fill.ensures.after (λ y e. e))) w.if-end-cut.true)
      | else-end-cut w ↦ w.column-is ∙ m ∙ cleared_none l xs a b n i j h w.if-end-cut.false
    ]

pub returns : goal.returns
returns c =
    let l = c.args.column.now in
    let xs = c.args.new.now in
    let a = c.args.cut.start in
    let b = c.args.cut.end in
    let n = c.args.cut.used in
    let i : b ≤ n = omega arith in
    let j : n ≤ length l = omega arith in
    let h : a + length xs + (n - b) ≤ length l = omega arith in
    let m : a + length xs - a ≡ length xs = omega arith in
    rw (over c i j h, c.write_over.ensures) (spliced_put l xs a b n i j h _ m)
