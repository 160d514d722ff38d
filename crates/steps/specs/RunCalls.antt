-- What a run does to the two tables and to the list for replies. Quoted words are document 01's.
-- Assumes nothing.
use Rattle.std.specs.Prelude.{cond, List, [], ◌∷◌, ℕ, zero, suc, ◌+◌, ◌*◌, ltb, length, get_or}
use Rattle.store.specs.Table.{table_of as store_table}
use Rattle.store.specs.declared.Reply.{Reply}
use Rattle.players.specs.Replies.{reply}
use Rattle.players.specs.Table.{state_of, table_of, valid}
use Rattle.players.specs.Calls.{whole}
use Rattle.session.specs.Reports.{Report}
use Rattle.session.specs.Mark.{marked}
use Rattle.session.specs.Runs.{report, Run, no_mark, too_long, longest, run_marked, reply_words, whole_places, filled}

-- a report, and the list and the two tables after it
pub record Finished : Type 0 where
  pub report : Report
  pub list : List ℕ
  pub store : List ℕ
  pub players : List ℕ

abbrev pub finished : Report → List ℕ → List ℕ → List ℕ → Finished
finished r list st t = record { report = r; list = list; store = st; players = t }

-- the replies are put into the list, and the tables hold the state that is left
abbrev pub encoded : List ℕ → Run → Finished
encoded list r = finished r.report (filled list r.replies) (store_table r.state.store) (table_of r.state)

-- "For a run: 21, 22, 37, 23." A refused run reports "its number, 0, 0" and alters nothing
abbrev pub ran : List ℕ → List ℕ → List ℕ → ℕ → List ℕ → Finished
ran st t session budget list =
    let refused : ℕ → Finished = λ n. finished (report n 0 0) list st t in
    cond (whole st t)
    (cond (valid st t)
    (cond (ltb longest (length session)) (refused too_long)
    (cond (marked session) (encoded list (run_marked (state_of st t) session budget (whole_places list))) (refused no_mark)))
    (refused 22))
    (refused 21)

-- ---- the replies that stand in a list for them

-- in the i-th place, counted from 0
abbrev pub reply_at : List ℕ → ℕ → Reply
reply_at list i =
    let at = reply_words * i in
    reply (get_or list at 0) (get_or list (at + 1) 0) (get_or list (at + 2) 0)

-- in n places, from the i-th on
unfoldable pub replies_from : List ℕ → ℕ → ℕ → List Reply
replies_from list i zero = []
replies_from list i (suc n) = reply_at list i ∷ replies_from list (i + 1) n
