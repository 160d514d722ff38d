-- Guard intervals that stand for a function of the entries: how they are cut, lengthened and joined.
-- Assumes nothing.
use mathlib.Core.Path.{◌≡◌, refl, sym, ap, ◌∙◌, subst}
use mathlib.Core.Logic.{⊎_elim}
use mathlib.Core.Bool.{true, false, not, ◌&&◌, and-false}
use mathlib.Core.List.{List, [], ◌∷◌, ◌++◌}
use Prim.Native.Nat.{ℕ, zero, suc, ◌+◌, ◌≤◌, ◌<◌}
use native.Mathlib.Omega.{arith}
use native.Mathlib.Nat.{zero-add, suc-add}
use lib.Dec.{T, leb, ltb, eqb}
use lib.ListN.{length, get_or, take, drop, replicate, length-replicate}
use borrow.Author.Tests.{ne_eqb, lt-leb, lt-ltb, le-ltb, leb-true, leb-false, ltb-true, ltb-false}
use Rattle.store.specs.Table.{seek, guard_at, listed, coded, start, label, guard_holds, intervals}
use Rattle.store.specs.Words.{place}
use Rattle.store.proofs.Bools.{decide, and_both}
use Rattle.store.proofs.GuardRules.{issued_holds}
use Rattle.store.proofs.Lists.{listed_same}
use Rattle.store.proofs.Intervals.{Rising, end, next, is_rising, seek_zeros, seek_before, seek_past}
use Rattle.store.proofs.Dense.{dense_guards, coded-dense}

-- the intervals after one that begins at entry e are those of f from there on
pub data Stands (f : ℕ → ℕ) : ℕ → List ℕ → List ℕ → Type 0 where
  over : {e : ℕ} {ss ls : List ℕ} (m : ℕ) → ((x : ℕ) → e ≤ x → x < 256 → f x ≡ f e) → ss ≡ replicate m 0 → ls ≡ replicate m 0 → Stands f e ss ls
  then : {e s l : ℕ} {ss ls : List ℕ} → e < s → s < 256 → l ≡ f s → (f s ≡ f e → ⊥) → ((x : ℕ) → e ≤ x → x < s → f x ≡ f e) → Stands f s ss ls → Stands f e (s ∷ ss) (l ∷ ls)

-- ---- the intervals that keep the rule stand for the guards that they give

seek_early : (x g s l : ℕ) (ss ls : List ℕ) → x < s → seek x g (s ∷ ss) (l ∷ ls) ≡ g
unfolding seek
seek_early x g s l ss ls h = rw (ne_eqb s 0 (λ q. omega arith), lt-leb s x h)

pub rising_stands : {n e g : ℕ} {ss ls : List ℕ} (f : ℕ → ℕ) → e < 256 → Rising n e g ss ls → ((x : ℕ) → e ≤ x → x < 256 → f x ≡ seek x g ss ls) → Stands f e ss ls
rising_stands {e = e} {g} {ss} {ls} f b (end m p q) h =
    let one : (x : ℕ) → e ≤ x → x < 256 → f x ≡ g = λ x i j. h x i j ∙ rw (p, q) (seek_zeros x g m) in
    over m (λ x i j. one x i j ∙ sym (one e (omega arith) b)) p q
rising_stands {e = e} {g} f b (next {s = s} {l} {ss} {ls} i j c d r) h =
    let one : (x : ℕ) → e ≤ x → x < s → f x ≡ g = λ x p q. h x p (omega arith) ∙ seek_early x g s l ss ls q in
    let fe : f e ≡ g = one e (omega arith) i in
    let fs : f s ≡ l = h s (omega arith) j ∙ seek_past s g s l ss ls (omega arith) (omega arith) ∙ seek_before s (omega arith) r in
    then i j (sym fs) (λ q. c (sym fs ∙ q ∙ fe)) (λ x p q. one x p q ∙ sym fe)
    (rising_stands f j r (λ x p q. h x (omega arith) q ∙ seek_past x g s l ss ls (omega arith) p))

-- ---- and what stands for a function is what encoding it gives

stands_rising : {f : ℕ → ℕ} {e : ℕ} {ss ls : List ℕ} (n : ℕ) → ((x : ℕ) → f x ≤ n) → Stands f e ss ls → Rising n e (f e) ss ls
stands_rising n b (over m h p q) = end m p q
stands_rising {f} n b (then {e} {s} {l} {ss} {ls} i j c d h r) =
    next i j (λ q. d (sym c ∙ q)) (rw c (issued_holds n (f s) (b s))) (subst (λ (g : ℕ). Rising n s g ss ls) (sym c) (stands_rising n b r))

stands_seek : {f : ℕ → ℕ} {e : ℕ} {ss ls : List ℕ} → Stands f e ss ls → (x : ℕ) → e ≤ x → x < 256 → seek x (f e) ss ls ≡ f x
stands_seek {f} {e} (over m h p q) x i j = rw (p, q) (seek_zeros x (f e) m ∙ sym (h x i j))
stands_seek {f} (then {e} {s} {l} {ss} {ls} a b c d h r) x i j =
    ⊎_elim
    (λ w. seek_early x (f e) s l ss ls (ltb-true x s w) ∙ sym (h x i (ltb-true x s w)))
    (λ w.
    let k : s ≤ x = ltb-false x s w in
    seek_past x (f e) s l ss ls (omega arith) k ∙ ap (λ (g : ℕ). seek x g ss ls) c ∙ stands_seek r x k j)
    (decide (ltb x s))

pub stands_coded : (n : ℕ) (f : ℕ → ℕ) (ss ls : List ℕ) → length ss ≡ 255 → length ls ≡ 255 → ((x : ℕ) → f x ≤ n) → Stands f 0 ss ls → (coded start (listed f 0 256) ≡ 0 ∷ ss) × (coded label (listed f 0 256) ≡ f 0 ∷ ls)
unfolding intervals guard_at
stands_coded n f ss ls hs hl b r =
    let iv : T (intervals n (0 ∷ ss) (f 0 ∷ ls)) = and_both (guard_holds n (f 0)) _ (issued_holds n (f 0) (b 0)) (is_rising (stands_rising n b r)) in
    let d = dense_guards n (0 ∷ ss) (f 0 ∷ ls) (ap suc (hs ∙ sym hl)) iv in
    let e : listed (guard_at (0 ∷ ss) (f 0 ∷ ls)) 0 256 ≡ listed f 0 256 =
    listed_same _ _ 0 256 (λ k h. rw (lt-ltb (0 + k) 256 (omega arith)) (stands_seek r (0 + k) (omega arith) (omega arith))) in
    let u = coded-dense n (0 ∷ ss) (f 0 ∷ ls) (ap suc hs) (ap suc hl) iv in
    (ap (coded start) (sym (d ∙ e)) ∙ u.starts, ap (coded label) (sym (d ∙ e)) ∙ u.labels)

-- ---- how many begin before an entry

pub place_zeros : (x m : ℕ) → place x (replicate m 0) ≡ 0
unfolding place
place_zeros x zero = refl
place_zeros x (suc m) = refl

pub place_least : (ss : List ℕ) → place 0 ss ≡ 0
unfolding place
place_least [] = refl
place_least (s ∷ ss) = rw (le-ltb s 0 (omega arith), and-false (not (eqb s 0)))

pub place-length : (x : ℕ) (ss : List ℕ) → place x ss ≤ length ss
unfolding place
place-length x [] = omega arith
place-length x (s ∷ ss) =
    ⊎_elim (λ w. rw w (omega (arith, place-length x ss))) (λ w. rw w (omega arith)) (decide (not (eqb s 0) && ltb s x))

-- those before x are those before an earlier entry, and those that follow them
pub place-add : (x y : ℕ) (ss : List ℕ) → x ≤ y → place x ss + place y (drop (place x ss) ss) ≡ place y ss
unfolding place
place-add x y [] h = refl
place-add x y (s ∷ ss) h =
    let none : place x (s ∷ ss) ≡ 0 → place x (s ∷ ss) + place y (drop (place x (s ∷ ss)) (s ∷ ss)) ≡ place y (s ∷ ss) =
    λ p. ap (λ (k : ℕ). k + place y (drop k (s ∷ ss))) p ∙ zero-add _ in
    ⊎_elim
    (λ (z : eqb s 0 ≡ true). none (rw z))
    (λ (z : eqb s 0 ≡ false).
    ⊎_elim
    (λ w.
    let k : s < x = ltb-true s x w in
    rw (z, w, lt-ltb s y (omega arith)) (suc-add _ _ ∙ ap suc (place-add x y ss h)))
    (λ (w : ltb s x ≡ false). none (rw (z, w)))
    (decide (ltb s x)))
    (decide (eqb s 0))

pub place_below : {f : ℕ → ℕ} {e : ℕ} {ss ls : List ℕ} (x : ℕ) → e < x → Stands f e ss ls → place x ss + e < x
unfolding place
place_below {e = e} x k (over m h p q) = rw (p, place_zeros x m, zero-add) k
place_below x k (then {e} {s} {l} {ss} a b c d h r) =
    ⊎_elim
    (λ w.
    let i : place x ss + s < x = place_below x (ltb-true s x w) r in
    rw (ne_eqb s 0 (λ q. omega arith), w) (omega arith))
    (λ w. rw (ne_eqb s 0 (λ q. omega arith), w, zero-add) k)
    (decide (ltb s x))

pub place_none : {f : ℕ → ℕ} {e : ℕ} {ss ls : List ℕ} (x : ℕ) → e ≡ 256 → Stands f e ss ls → place x ss ≡ 0
place_none x k (over m h p q) = rw (p, place_zeros x m)
place_none x k (then a b c d h r) = absurd (omega arith)

-- ---- the intervals from an entry on

pub cut : {f : ℕ → ℕ} {e : ℕ} {ss ls : List ℕ} (h : ℕ) → e ≤ h → Stands f e ss ls → Stands f h (drop (place (h + 1) ss) ss) (drop (place (h + 1) ss) ls)
unfolding place
cut h i (over m g p q) =
    rw (p, q, place_zeros (h + 1) m) (over m (λ x j k. g x (omega arith) k ∙ sym (g h i (omega arith))) refl refl)
cut h i (then {e} {s} {l} {ss} {ls} a b c d g r) =
    ⊎_elim
    (λ w.
    let k : s < h + 1 = ltb-true s (h + 1) w in
    rw (ne_eqb s 0 (λ q. omega arith), w) (cut h (omega arith) r))
    (λ w.
    let k : h + 1 ≤ s = ltb-false s (h + 1) w in
    let gh = g h i (omega arith) in
    rw (ne_eqb s 0 (λ q. omega arith), w) (then {e = h} {s = s} (omega arith) b c (λ q. d (q ∙ gh)) (λ x j y. g x (omega arith) y ∙ sym gh) r))
    (decide (ltb s (h + 1)))

-- the guard of an entry is that of the last interval that begins at or before it
pub cut_at : {f : ℕ → ℕ} {e : ℕ} {ss ls : List ℕ} (h : ℕ) → e ≤ h → h < 256 → Stands f e ss ls → get_or (f e ∷ ls) (place (h + 1) ss) 0 ≡ f h
unfolding place
cut_at h i o (over m g p q) = rw (p, place_zeros (h + 1) m) (sym (g h i o))
cut_at {f} h i o (then {e} {s} {l} {ss} {ls} a b c d g r) =
    ⊎_elim
    (λ w.
    let k : s < h + 1 = ltb-true s (h + 1) w in
    rw (ne_eqb s 0 (λ q. omega arith), w) (ap (λ (y : ℕ). get_or (y ∷ ls) (place (h + 1) ss) 0) c ∙ cut_at h (omega arith) o r))
    (λ w.
    let k : h + 1 ≤ s = ltb-false s (h + 1) w in
    rw (ne_eqb s 0 (λ q. omega arith), w) (sym (g h i (omega arith))))
    (decide (ltb s (h + 1)))

-- ---- another function, and an earlier entry

pub agree : {f : ℕ → ℕ} {e : ℕ} {ss ls : List ℕ} (f' : ℕ → ℕ) → ((x : ℕ) → e ≤ x → x < 256 → f' x ≡ f x) → Stands f e ss ls → Stands f' e ss ls
agree {e = e} f' h (over m g p q) = over m (λ x i j. h x i j ∙ g x i j ∙ sym (h e (omega arith) (omega arith))) p q
agree f' h (then {e} {s} a b c d g r) =
    let he = h e (omega arith) (omega arith) in
    let hs = h s (omega arith) b in
    then a b (c ∙ sym hs) (λ q. d (sym hs ∙ q ∙ he)) (λ x i j. h x i (omega arith) ∙ g x i j ∙ sym he) (agree f' (λ x i j. h x (omega arith) j) r)

pub lower : {f : ℕ → ℕ} {h : ℕ} {ss ls : List ℕ} (e : ℕ) → e ≤ h → ((x : ℕ) → e ≤ x → x < 256 → x ≤ h → f x ≡ f e) → Stands f h ss ls → Stands f e ss ls
lower {h = h} e o k (over m g p q) =
    over m
    (λ x i j.
    ⊎_elim (λ w. k x i j (leb-true x h w))
    (λ w.
    let y : h < x = leb-false x h w in
    g x (omega arith) j ∙ k h o (omega arith) (omega arith))
    (decide (leb x h)))
    p q
lower {h = h} e o k (then {s = s} a b c d g r) =
    let kh = k h o (omega arith) (omega arith) in
    then {e = e} {s = s} (omega arith) b c (λ q. d (q ∙ sym kh))
    (λ x i j.
    ⊎_elim (λ w. k x i (omega arith) (leb-true x h w))
    (λ w.
    let y : h < x = leb-false x h w in
    g x (omega arith) j ∙ kh)
    (decide (leb x h)))
    r

-- ---- the intervals before an entry lo, of which there are k after the one that begins at e

pub record Prefix (f : ℕ → ℕ) (e lo k : ℕ) (ss ls : List ℕ) : Type 0 where
  pub low : get_or (e ∷ ss) k 0 < lo
  pub same : (x : ℕ) → get_or (e ∷ ss) k 0 ≤ x → x < lo → f x ≡ f (get_or (e ∷ ss) k 0)
  pub last : get_or (f e ∷ ls) k 0 ≡ f (get_or (e ∷ ss) k 0)
  pub onto : (f' : ℕ → ℕ) → ((x : ℕ) → x < lo → f' x ≡ f x) → (xs ys : List ℕ) → Stands f' (get_or (e ∷ ss) k 0) xs ys → Stands f' e (take k ss ++ xs) (take k ls ++ ys)

prefix_none : {f : ℕ → ℕ} {e lo : ℕ} (ss ls : List ℕ) → e < lo → ((x : ℕ) → e ≤ x → x < lo → f x ≡ f e) → Prefix f e lo 0 ss ls
prefix_none ss ls h g = record { low = h; same = g; last = refl; onto = λ f' k xs ys r. r }

pub prefix : {f : ℕ → ℕ} {e : ℕ} {ss ls : List ℕ} (lo : ℕ) → e < lo → lo ≤ 256 → Stands f e ss ls → Prefix f e lo (place lo ss) ss ls
unfolding place
prefix lo o z (over {ss = ss} {ls} m g p q) =
    rw (p, place_zeros lo m) (prefix_none (replicate m 0) ls o (λ x i j. g x i (omega arith)))
prefix {f} lo o z (then {e} {s} {l} {ss} {ls} a b c d g r) =
    ⊎_elim
    (λ w.
    let i : s < lo = ltb-true s lo w in
    let t = prefix lo i z r in
    rw (ne_eqb s 0 (λ q. omega arith), w)
    (record {
      low = t.low;
      same = t.same;
      last = ap (λ (y : ℕ). get_or (y ∷ ls) (place lo ss) 0) c ∙ t.last;
      onto = λ f' k xs ys y.
          then a b (c ∙ sym (k s i)) (λ q. d (sym (k s i) ∙ q ∙ k e o)) (λ x u v. k x (omega arith) ∙ g x u v ∙ sym (k e o)) (t.onto f' k xs ys y);
    }))
    (λ w.
    let i : lo ≤ s = ltb-false s lo w in
    rw (ne_eqb s 0 (λ q. omega arith), w) (prefix_none (s ∷ ss) (l ∷ ls) o (λ x u v. g x u (omega arith))))
    (decide (ltb s lo))

-- ---- the places that are not used

pub padded : {f : ℕ → ℕ} {e : ℕ} {ss ls : List ℕ} (n : ℕ) → Stands f e ss ls → Stands f e (take (place 256 ss) ss ++ replicate n 0) (take (place 256 ss) ls ++ replicate n 0)
unfolding place
padded n (over m h p q) = rw (p, place_zeros 256 m) (over n h refl refl)
padded n (then {e} {s} a b c d h r) = rw (ne_eqb s 0 (λ q. omega arith), lt-ltb s 256 b) (then a b c d h (padded n r))

zeros_length : (m n : ℕ) → length {A = ℕ} (replicate m 0) ≡ 0 + n → replicate {A = ℕ} m 0 ≡ replicate n 0
zeros_length m n w = ap (λ (k : ℕ). replicate k 0) (sym (length-replicate {A = ℕ} m 0) ∙ w ∙ zero-add n)

pub unused_starts : {f : ℕ → ℕ} {e : ℕ} {ss ls : List ℕ} (n : ℕ) → length ss ≡ place 256 ss + n → Stands f e ss ls → drop (place 256 ss) ss ≡ replicate n 0
unfolding place
unused_starts {ss = ss} n w (over m h p q) =
    let k : length {A = ℕ} (replicate m 0) ≡ 0 + n = ap length (sym p) ∙ w ∙ ap (λ (y : ℕ). y + n) (ap (place 256) p ∙ place_zeros 256 m) in
    rw (p, place_zeros 256 m) (zeros_length m n k)
unused_starts n w (then {e} {s} {l} {ss} a b c d h r) =
    let z = ne_eqb s 0 (λ q. omega arith) in
    let y = lt-ltb s 256 b in
    let k : suc (length ss) ≡ suc (place 256 ss) + n = rw (z, y) at w in
    rw (z, y) (unused_starts n (omega (arith, k)) r)

pub unused_labels : {f : ℕ → ℕ} {e : ℕ} {ss ls : List ℕ} (n : ℕ) → length ls ≡ place 256 ss + n → Stands f e ss ls → drop (place 256 ss) ls ≡ replicate n 0
unfolding place
unused_labels {ss = ss} n w (over m h p q) =
    let k : length {A = ℕ} (replicate m 0) ≡ 0 + n = ap length (sym q) ∙ w ∙ ap (λ (y : ℕ). y + n) (ap (place 256) p ∙ place_zeros 256 m) in
    rw (p, q, place_zeros 256 m) (zeros_length m n k)
unused_labels n w (then {e} {s} {l} {ss} {ls} a b c d h r) =
    let z = ne_eqb s 0 (λ q. omega arith) in
    let y = lt-ltb s 256 b in
    let k : suc (length ls) ≡ suc (place 256 ss) + n = rw (z, y) at w in
    rw (z, y) (unused_labels n (omega (arith, k)) r)
