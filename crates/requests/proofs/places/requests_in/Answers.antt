use Rattle.std.proofs.Common.{[], sym, ◌∙◌, arith}
use Rattle.requests.proofs.Runs.{rest_runs}
use Rattle.requests.proofs.FirstPlace.{requests_of-whole, requests_of-other, requests_in-short}
use Rattle.requests.proofs.places.requests_in.Goals as goal

pub returns-then-region-eq-WORDS-clause-all : goal.returns-then-region-eq-WORDS-clause-all
returns-then-region-eq-WORDS-clause-all c = sym (requests_of-whole c.args.region.now c.if-region-eq-WORDS.true)

pub returns-then-region-eq-WORDS-clause-runs : goal.returns-then-region-eq-WORDS-clause-runs
returns-then-region-eq-WORDS-clause-runs c = rest_runs

pub returns-clause-all : goal.returns-clause-all
returns-clause-all c = requests_in-short [] (omega arith) ∙ sym (requests_of-other c.args.region.now c.if-region-eq-WORDS.false)

pub returns-clause-runs : goal.returns-clause-runs
returns-clause-runs c = rest_runs
