-- The words that a call on one place of a region leaves.
-- Assumes nothing.
use Rattle.std.proofs.Common.{◌≡◌, ℕ, ◌+◌, ◌-◌, ◌*◌, ◌≤◌, ◌<◌, List, [], ◌++◌, length, take, drop, replicate, length-drop, drop_of_length-le, take_all, arith}
use Rattle.std.specs.Prelude.{true, ◌&&◌, ltb}
use Rattle.std.proofs.Math.Seq.{drop-drop}
use mathlib.Core.List.{append-nil}
use borrow.Rule.Slice.PartMut.{put_mid}
use borrow.Author.Tests.{eqb-true, ltb-true}
use Rattle.requests.specs.Region.{whole}
use Rattle.requests.specs.Calls.{over, closed}
use Rattle.requests.proofs.Basics.{both_left, both_right}
use Rattle.requests.proofs.WordLaws.{over_is}

-- what the test of a place tells
pub place_is : (w : List ℕ) (k : ℕ) → (whole w && ltb k 64) ≡ true → (length w ≡ 768) × (k < 64)
place_is w k h = (eqb-true (length w) 768 (both_left (whole w) (ltb k 64) h), ltb-true k 64 (both_right (whole w) (ltb k 64) h))

-- twelve words written over the first place of a part
pub put_is : (w vs : List ℕ) (n b : ℕ) → length w ≡ n → length vs ≡ 12 → b + 12 ≤ n → put_mid b (n - b) w (vs ++ drop 12 (take (n - b) (drop b w))) ≡ over w b vs
put_is w vs n b e l h =
    let q : length (drop b w) ≡ n - b = omega (arith, length-drop b w) in
    let d : take (n - b) (drop b w) ≡ drop b w = take_all (n - b) (drop b w) (omega (arith, q)) in
    let o : drop (n - b) (drop b w) ≡ [] = drop_of_length-le (drop b w) {i = n - b} (omega (arith, q)) in
    rw (d, o, append-nil, over_is w b vs (omega (arith, l)), l, drop-drop 12 b w)

-- a place closed: it is the first of those from it on
pub closed_is : (w : List ℕ) (k : ℕ) → put_mid (k * 12) (length w - k * 12) w (drop 12 (take (length w - k * 12) (drop (k * 12) w)) ++ replicate 12 0) ≡ closed k w
unfolding closed
closed_is w k =
    let q : length (drop (k * 12) w) ≡ length w - k * 12 = length-drop (k * 12) w in
    let d : take (length w - k * 12) (drop (k * 12) w) ≡ drop (k * 12) w = take_all (length w - k * 12) (drop (k * 12) w) (omega (arith, q)) in
    let o : drop (length w - k * 12) (drop (k * 12) w) ≡ [] = drop_of_length-le (drop (k * 12) w) {i = length w - k * 12} (omega (arith, q)) in
    rw (d, o, append-nil, drop-drop)
