-- Lines: how long they are, one put at a place of the text, and those of replies one by one.
-- Assumes nothing.
use mathlib.Core.Path.{◌≡◌, ◌∙◌, refl, sym, ap}
use mathlib.Core.Bool.{Bool, true, false, cond}
use mathlib.Core.List.{List, [], ◌∷◌, ◌++◌, append_assoc, append-nil}
use Prim.Native.Nat.{ℕ, zero, suc, ◌+◌, ◌-◌, ◌*◌, ◌/◌, ◌%◌, ◌≤◌, ◌<◌}
use native.Mathlib.Omega.{arith}
use lib.Dec.{ltb}
use lib.ListN.{length, take, drop, get_or, length-append, length-drop}
use lib.Seq.{take_all, length-take-le, take-append-add, take-append_seam, drop-drop, get_or-take, get_or-drop}
use borrow.Author.Tests.{le-ltb}
use borrow.Rule.Slice.PartMut.{put_mid}
use Rattle.std.specs.Prelude.{Result, Ok, Err}
use Rattle.std.specs.Result.{result_unwrap_or}
use Rattle.std.specs.Simd.{first_chunks}
use Rattle.store.specs.declared.Reply.{Reply}
use Rattle.store.specs.declared.refusal.Refusal.{Refusal}
use Rattle.players.specs.Replies.{reply}
use Rattle.session.specs.Reports.{Report}
use Rattle.session.specs.Listing.{digits, decimal, three, header, reply_line, reply_lines, end_line}
use Rattle.store.specs.Answers.{of_count, as_reply}
use Rattle.session.specs.Written.{Wrote, wrote, written}
use Rattle.session.specs.Text.{Puts}
use Rattle.steps.specs.RunCalls.{reply_at, replies_from}

-- ---- lengths

digits-length : (k n : ℕ) → length (digits k n) ≤ k
unfolding digits
digits-length zero n = omega arith
digits-length (suc k) n = by (ltb n 10) (digits-length k (n / 10))
  where
    by : (b : Bool) → length (digits k (n / 10)) ≤ k → length (cond b ((0x30 + n) ∷ []) (digits k (n / 10) ++ ((0x30 + n % 10) ∷ []))) ≤ suc k
    by true h = omega arith
    by false h = rw (length-append (digits k (n / 10)) ((0x30 + n % 10) ∷ [])) (omega arith)

three-length : (a b c : ℕ) → length (three a b c) ≤ 34
three-length a b c =
    simp length-append (omega (arith, digits-length 10 a, digits-length 10 b, digits-length 10 c))

pub reply_line-length : (n : ℕ) (r : Reply) → length (reply_line n r) ≤ 44
reply_line-length n r = rw (length-append (decimal n) (three r.code r.a r.b)) (omega (arith, digits-length 10 n, three-length r.code r.a r.b))

pub end_line-length : (r : Report) → length (end_line r) ≤ 37
end_line-length r = omega (arith, three-length r.why r.records r.place)

-- ---- a line put at a place of the text

-- what is written, where there is room
count : (r : Result ℕ Refusal) → result_unwrap_or r 0 ≡ (as_reply of_count r).a
count (Ok n) = refl
count (Err e) = refl

written_is : (text out : List ℕ) (n : ℕ) (r : Result ℕ Refusal) (part : List ℕ) → length text ≤ length out → n ≡ result_unwrap_or r 0
    → wrote (as_reply of_count r) part ≡ written text out → (n ≡ length text) × (part ≡ text ++ drop (length text) out)
written_is text out n r part h is e =
    let f = rw (le-ltb (length out) (length text) h) at e in
    (is ∙ count r ∙ ap (λ (w : Wrote). w.replied.a) f, ap (λ (w : Wrote). w.buffer) f)

pub line_put : (text : List ℕ) (room at : ℕ) (out part : List ℕ) (n : ℕ) (r : Result ℕ Refusal) → length text ≤ room → at + room ≤ length out
    → n ≡ result_unwrap_or r 0 → wrote (as_reply of_count r) part ≡ written text (take (length out - at) (drop at out))
    → Puts text room at out (put_mid at (length out - at) out part) (at + n)
line_put text room at out part n r h fits is e =
    let l = length-drop at out in
    let all : take (length out - at) (drop at out) ≡ drop at out = take_all (length out - at) (drop at out) (omega arith) in
    let w = written_is text (drop at out) n r part (omega arith) is (e ∙ ap (written text) all) in
    let before = take at out in
    let after = drop (length out - at) (drop at out) in
    let rest = drop (length text) (drop at out) in
    let b : length before ≡ at = length-take-le at out (omega arith) in
    record {
      stands =
          ap (λ (k : ℕ). take (at + k) (before ++ (part ++ after))) w.0
          ∙ ap (λ (k : ℕ). take (k + length text) (before ++ (part ++ after))) (sym b)
          ∙ take-append-add before (part ++ after) (length text)
          ∙ ap (λ (p : List ℕ). before ++ take (length text) (p ++ after)) w.1
          ∙ ap (λ (p : List ℕ). before ++ take (length text) p) (append_assoc text rest after)
          ∙ ap (λ (p : List ℕ). before ++ p) (take-append_seam text (rest ++ after));
      ends = omega (arith, w.0);
    }

-- the header, which comes first
pub header_put : (out part : List ℕ) (n : ℕ) (r : Result ℕ Refusal) → 14 ≤ length out → n ≡ result_unwrap_or r 0 → wrote (as_reply of_count r) part ≡ written header out
    → (n ≡ 14) × (take n part ≡ header)
header_put out part n r h is e =
    let w = written_is header out n r part h is e in
    (w.0, ap (λ (k : ℕ). take k part) w.0 ∙ ap (take 14) w.1 ∙ take-append_seam header (drop 14 out))

-- ---- the words of a reply

-- the i-th of k parts of three words
part_at : (k i : ℕ) (list : List ℕ) → i < k → get_or (first_chunks 3 k list) i [] ≡ take 3 (drop (3 * i) list)
part_at zero i list h = absurd (omega arith)
part_at (suc k) zero list h = refl
part_at (suc k) (suc i) list h =
    let e : 3 + 3 * i ≡ 3 * suc i = omega arith in
    part_at k i (drop 3 list) (omega arith) ∙ ap (take 3) (drop-drop (3 * i) 3 list ∙ ap (λ (n : ℕ). drop n list) e)

-- the reply of the i-th of the first n parts is the one in the i-th place
pub part_reply : (n k i : ℕ) (list : List ℕ) → i < n → n ≤ k → reply_at (get_or (take n (first_chunks 3 k list)) i []) 0 ≡ reply_at list i
part_reply n k i list h m =
    ap (λ (part : List ℕ). reply_at part 0) (get_or-take n (first_chunks 3 k list) i [] h ∙ part_at k i list (omega arith))
    ∙ ap (λ (x : ℕ). reply x (get_or part 1 0) (get_or part 2 0)) (word 0 (3 * i) (omega arith) (omega arith))
    ∙ ap (λ (x : ℕ). reply (get_or list (3 * i) 0) x (get_or part 2 0)) (word 1 (3 * i + 1) (omega arith) (omega arith))
    ∙ ap (λ (x : ℕ). reply (get_or list (3 * i) 0) (get_or list (3 * i + 1) 0) x) (word 2 (3 * i + 2) (omega arith) (omega arith))
  where
    part : List ℕ
    part = take 3 (drop (3 * i) list)

    word : (j at : ℕ) → j < 3 → 3 * i + j ≡ at → get_or part j 0 ≡ get_or list at 0
    word j at g e = get_or-take 3 (drop (3 * i) list) j 0 g ∙ get_or-drop (3 * i) list j 0 ∙ ap (λ (x : ℕ). get_or list x 0) e

-- ---- the lines of replies

-- i lines of n are put, up to the place `at`
pub record Lined (list : List ℕ) (n i at : ℕ) (out : List ℕ) : Type 0 where
  pub stands : take at out ++ reply_lines (i + 1) (replies_from list i (n - i)) ≡ header ++ reply_lines 1 (replies_from list 0 n)
  pub most : i ≤ n
  pub ends : at ≤ 14 + 44 * i

pub none_lined : (list : List ℕ) (n at : ℕ) (out : List ℕ) → at ≡ 14 → take at out ≡ header → Lined list n 0 at out
none_lined list n at out e h =
    let z : n - 0 ≡ n = omega arith in
    record { stands = rw (z, h); most = omega arith; ends = omega arith }

pub one_lined : (list : List ℕ) (n i at r : ℕ) (out out' : List ℕ) (reply : Reply) → Lined list n i at out → i < n → reply ≡ reply_at list i
    → Puts (reply_line (i + 1) reply) 44 at out out' r → Lined list n (i + 1) r out'
unfolding replies_from
one_lined list n i at r out out' reply l h e p =
    let z : n - i ≡ suc (n - (i + 1)) = omega arith in
    let line = reply_line (i + 1) (reply_at list i) in
    let rest = reply_lines (i + 1 + 1) (replies_from list (i + 1) (n - (i + 1))) in
    record {
      stands =
          ap (λ (k : List ℕ). k ++ rest) (p.stands ∙ ap (λ (x : Reply). take at out ++ reply_line (i + 1) x) e)
          ∙ append_assoc (take at out) line rest
          ∙ ap (λ (k : ℕ). take at out ++ reply_lines (i + 1) (replies_from list i k)) (sym z)
          ∙ l.stands;
      most = omega arith;
      ends = omega (arith, p.ends, l.ends);
    }

pub all_lined : (list : List ℕ) (n i at r : ℕ) (out out' text : List ℕ) → Lined list n i at out → n ≤ i
    → Puts text 37 at out out' r → take r out' ≡ header ++ (reply_lines 1 (replies_from list 0 n) ++ text)
unfolding replies_from
all_lined list n i at r out out' text l h p =
    let z : n - i ≡ 0 = omega (arith, l.most) in
    let e : take at out ≡ header ++ reply_lines 1 (replies_from list 0 n) = sym (append-nil (take at out)) ∙ ap (λ (k : ℕ). take at out ++ reply_lines (i + 1) (replies_from list i k)) (sym z) ∙ l.stands in
    p.stands ∙ ap (λ (k : List ℕ). k ++ text) e ∙ append_assoc header (reply_lines 1 (replies_from list 0 n)) text
