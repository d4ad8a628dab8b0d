use Rattle.std.proofs.Common.{inl, inr}
use Rattle.request_meaning.specs.Facts.{facts_of}
use Rattle.api_replies.proofs.AnswerLemmas.{meant_answered}
use Rattle.api_replies.proofs.answered.answer.Goals as goal

pub returns-in-Ok : goal.returns-in-Ok
returns-in-Ok c = record {
  answer = meant_answered (facts_of c.args.config.now) c.args.request.now c.args.history.now c.in-Ok.meant c.answer_meant.result c.in-Ok.ensures c.answer_meant.ensures;
}

pub returns-in-Err-Fault : goal.returns-in-Err-Fault
returns-in-Err-Fault c =
    let is = c.in-Err-Fault.field-0-is in record {
      answer = inl (inl (c.in-Err-Fault.refusal, rw is at c.in-Err-Fault.ensures, rw (c.moment.ensures, c.close.ensures, is) at c.refusal_reply.ensures));
    }

pub returns-in-Err-Memory : goal.returns-in-Err-Memory
returns-in-Err-Memory c = record {
  answer =
      inr (
        rw c.in-Err-Memory.field-0-is at c.in-Err-Memory.ensures,
        rw (c.moment-in-Err-Memory.ensures, c.close-in-Err-Memory.ensures) at c.memory_reply.ensures,
      );
}
