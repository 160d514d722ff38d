-- Laws of a run: a session that was written is taken whole, and the bytes that a run takes are those of the steps it takes.
-- Assumes nothing.
use mathlib.Core.Path.{◌≡◌, ◌∙◌, refl, sym, ap}
use mathlib.Core.Bool.{Bool, true, false, cond}
use mathlib.Core.List.{List, [], ◌∷◌, ◌++◌, append_assoc}
use Prim.Native.Nat.{ℕ, zero, suc, ◌+◌, ◌≤◌, ◌<◌}
use native.Mathlib.Omega.{arith}
use native.Mathlib.Nat.{add-zero, le_of_suc-le-suc, not-suc-le-zero}
use lib.ListN.{length, take, drop, length-append, take-append-drop}
use lib.Seq.{take-append_seam, drop-append_seam, drop-drop, get_or-drop, take-add}
use lib.Dec.{eqb, leb}
use borrow.Author.Tests.{lt-ltb, le-ltb, ne_eqb}
use Rattle.players.specs.declared.Step.{Step}
use Rattle.players.specs.Rules.{State, step}
use Rattle.session.specs.Reports.{Report}
use Rattle.session.specs.Decoded.{Decoded, Record, Refused}
use Rattle.session.specs.Records.{cut_short, tested, decode, encode, encode_all, Bytes}
use Rattle.session.specs.Mark.{mark, marked}
use Rattle.session.specs.Runs.{report, Run, at_end, too_long, longest, stopped, run_from, allowed, run, steps_from, steps}
use Rattle.session.proofs.MarkLaws.{begins-take, begins-append}
use Rattle.session.proofs.RoundTrip.{read_back, only_bytes, only_length, within}

-- an over-long session is refused, whatever its bytes
pub too_long_refused : (s : State) (session : List ℕ) (budget places : ℕ) → longest < length session → run s session budget places ≡ stopped too_long 0 s
too_long_refused s session budget places h = simp (lt-ltb longest (length session) h)

-- ---- a session that was written

-- the records of steps are taken whole, and as these steps
record Whole (left : ℕ) (s : State) (place : ℕ) (xs : List Step) : Type 0 where
  taken : steps_from left (encode_all xs) ≡ xs
  reported : (run_from left s place (encode_all xs)).report ≡ report at_end (length xs) (place + length (encode_all xs))

-- no record
no_record : decode [] ≡ Refused cut_short
unfolding tested
no_record = refl

some_byte : (x : Step) (rest : List ℕ) → eqb (length (encode x ++ rest)) 0 ≡ false
some_byte x rest = ne_eqb (length (encode x ++ rest)) 0 (λ e. omega arith)

whole : (left : ℕ) (s : State) (place : ℕ) (xs : List Step) → length xs ≤ left → Whole left s place xs
unfolding run_from steps_from
whole zero s place [] h = record { taken = refl; reported = ap (report at_end 0) (sym (add-zero place)) }
whole (suc left) s place [] h = record { taken = rw no_record; reported = ap (report at_end 0) (sym (add-zero place)) }
whole zero s place (x ∷ xs) h = absurd (not-suc-le-zero h)
whole (suc left) s place (x ∷ xs) h =
    let n = length (encode x) in
    let w = whole left (step s x).state (place + n) xs (le_of_suc-le-suc h) in
    let e : place + n + length (encode_all xs) ≡ place + length (encode x ++ encode_all xs) = omega (arith, length-append (encode x) (encode_all xs)) in
    record {
      taken = rw (read_back x (encode_all xs), drop-append_seam (encode x) (encode_all xs)) (ap (λ (l : List Step). x ∷ l) w.taken);
      reported =
          rw (some_byte x (encode_all xs), read_back x (encode_all xs), drop-append_seam (encode x) (encode_all xs))
          (ap (λ (r : Report). report r.why (suc r.records) r.place) w.reported ∙ ap (report at_end (suc (length xs))) e);
    }

-- both the budget and the places suffice
enough : (n budget places : ℕ) → n ≤ budget → n ≤ places → n ≤ allowed budget places
enough n budget places h k = pick (leb budget places)
  where
    pick : (b : Bool) → n ≤ cond b budget places
    pick true = h
    pick false = k

-- the session of steps, written and run: it is taken to its end, as these steps
pub written_session : (s : State) (xs : List Step) (budget places : ℕ) → length (mark ++ encode_all xs) ≤ longest → length xs ≤ budget → length xs ≤ places
    → (steps (mark ++ encode_all xs) budget places ≡ xs) × ((run s (mark ++ encode_all xs) budget places).report ≡ report at_end (length xs) (length (mark ++ encode_all xs)))
written_session s xs budget places h hb hp =
    let w = whole (allowed budget places) s 4 xs (enough (length xs) budget places hb hp) in
    let e : 4 + length (encode_all xs) ≡ length (mark ++ encode_all xs) = omega (arith, length-append mark (encode_all xs)) in (
      rw (le-ltb longest (length (mark ++ encode_all xs)) h, begins-append mark (encode_all xs)) w.taken,
      rw (le-ltb longest (length (mark ++ encode_all xs)) h, begins-append mark (encode_all xs)) (w.reported ∙ ap (report at_end (length xs)) e),
    )

-- ---- the bytes that a run takes

-- the bytes of a part are bytes
pub bytes_drop : (n : ℕ) (part : List ℕ) → Bytes part → Bytes (drop n part)
unfolding Bytes
bytes_drop n part b i = rw get_or-drop (b (n + i))

-- the records taken from a part on, and the place after them
record Taken (left : ℕ) (s : State) (place : ℕ) (part : List ℕ) : Type 0 where
  starts : part ≡ encode_all (steps_from left part) ++ drop (length (encode_all (steps_from left part))) part
  ends : (run_from left s place part).report.place ≡ place + length (encode_all (steps_from left part))

-- a record's bytes, and then those that follow
joined : (n : ℕ) (part a rest : List ℕ) → take n part ≡ a → n ≡ length a → drop n part ≡ rest ++ drop (length rest) (drop n part)
    → part ≡ (a ++ rest) ++ drop (length (a ++ rest)) part
joined n part a rest w l h =
    let e : n + length rest ≡ length (a ++ rest) = omega (arith, length-append a rest) in
    sym (take-append-drop n part)
    ∙ ap (λ (k : List ℕ). k ++ drop n part) w
    ∙ ap (λ (k : List ℕ). a ++ k) (h ∙ ap (λ (k : List ℕ). rest ++ k) (drop-drop (length rest) n part ∙ ap (λ (k : ℕ). drop k part) e))
    ∙ sym (append_assoc a rest (drop (length (a ++ rest)) part))

-- two runs that stop at the same place
same_place : (b : Bool) (q r : Run) (place : ℕ) → q.report.place ≡ place → r.report.place ≡ place → (cond b q r).report.place ≡ place
same_place true q r place f g = f
same_place false q r place f g = g

-- by what stands at the place
taken_next : (left : ℕ) (s : State) (place : ℕ) (part : List ℕ) (d : Decoded) → decode part ≡ d → Bytes part
    → ((x : Step) (n : ℕ) → Taken left (step s x).state (place + n) (drop n part)) → Taken (suc left) s place part
unfolding run_from steps_from
taken_next left s place part (Refused n) e b h =
    record { starts = rw e; ends = rw e (same_place (eqb (length part) 0) (stopped at_end place s) (stopped n place s) (place + 0) (sym (add-zero place)) (sym (add-zero place))) }
taken_next left s place part (Record x n) e b h =
    let rest = encode_all (steps_from left (drop n part)) in
    let l : n ≡ length (encode x) = only_length part x n b e in
    let k : (1 ≤ n) × (n ≤ length part) = within part x n e in
    let q : place + n + length rest ≡ place + length (encode x ++ rest) = omega (arith, length-append (encode x) rest) in
    record {
      starts = rw e (joined n part (encode x) rest (only_bytes part x n b e) l (h x n).starts);
      ends = rw (ne_eqb (length part) 0 (λ z. omega arith), e) ((h x n).ends ∙ q);
    }

taken : (left : ℕ) (s : State) (place : ℕ) (part : List ℕ) → Bytes part → Taken left s place part
unfolding run_from steps_from
taken zero s place part b = record { starts = refl; ends = sym (add-zero place) }
taken (suc left) s place part b =
    taken_next left s place part (decode part) refl b (λ x n. taken left (step s x).state (place + n) (drop n part) (bytes_drop n part b))

-- the bytes before the place that a run reports are the mark and the records of its steps, and these alone
pub taken_bytes : (s : State) (session : List ℕ) (budget places : ℕ) → Bytes session → length session ≤ longest → marked session ≡ true
    → take (run s session budget places).report.place session ≡ mark ++ encode_all (steps session budget places)
taken_bytes s session budget places b h m =
    let part = drop 4 session in
    let t = taken (allowed budget places) s 4 part (bytes_drop 4 session b) in
    let rest = encode_all (steps_from (allowed budget places) part) in
    rw (le-ltb longest (length session) h, m)
    (ap (λ (n : ℕ). take n session) t.ends
    ∙ take-add 4 (length rest) session
    ∙ ap (λ (l : List ℕ). l ++ take (length rest) part) (begins-take mark session m)
    ∙ ap (λ (l : List ℕ). mark ++ l) (ap (take (length rest)) t.starts ∙ take-append_seam rest (drop (length rest) part)))
