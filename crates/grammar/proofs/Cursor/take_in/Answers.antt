-- Each arm says what was wanted, and cites the law of what the lists hold after that number.
use Rattle.std.proofs.Common.{rules}
use Rattle.grammar.proofs.Others.{no_take}
use Rattle.grammar.specs.Laws.{took_boards, took_group, took_work, took_due, took_none}
use Rattle.grammar.proofs.Cursor.take_in.Goals as goal

pub returns-in-Boards-clause-acts : goal.returns-in-Boards-clause-acts
returns-in-Boards-clause-acts c = λ r sound long h. took_boards _ _ _ _ _ _ _ _ h c.args.n c.in-Boards.is

pub returns-in-GroupDue-clause-acts : goal.returns-in-GroupDue-clause-acts
returns-in-GroupDue-clause-acts c =
    λ r sound long h. took_group _ _ _ _ _ _ _ _ h c.args.n c.least_due-round.result c.put.new.list sound long.long_least c.in-GroupDue.is c.least_due-round.ensures c.put.ensures

pub returns-in-JobWork-clause-acts : goal.returns-in-JobWork-clause-acts
returns-in-JobWork-clause-acts c =
    λ r sound long h. took_work _ _ _ _ _ _ _ _ h c.args.n c.put-in-JobWork.new.list sound long.long_work c.in-JobWork.is c.put-in-JobWork.ensures

pub returns-in-JobDue-clause-acts : goal.returns-in-JobDue-clause-acts
returns-in-JobDue-clause-acts c =
    λ r sound long h. took_due _ _ _ _ _ _ _ _ h c.args.n c.least_due-own.result c.put-in-JobDue.new.list sound long.long_due c.in-JobDue.is c.least_due-own.ensures c.put-in-JobDue.ensures

pub returns-in_default : goal.returns-in_default
returns-in_default c = record {
  lent = search rules;
  place = search rules;
  acts = λ r sound long h. took_none _ _ _ _ _ _ _ _ h c.args.n (no_take c.args.self.now.state.wanted c.in_default.not-Boards c.in_default.not-GroupDue c.in_default.not-JobWork c.in_default.not-JobDue);
}
