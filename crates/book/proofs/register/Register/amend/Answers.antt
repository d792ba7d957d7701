use Rattle.sheet.specs.Facts.{facts}
use Rattle.book.specs.Register.{periods_of, roll_of}
use Rattle.book.specs.Table.{offers_of}
use Rattle.book.proofs.Steps.{amend_judged}
use Rattle.book.proofs.register.Register.amend.Goals as goal

pub returns : goal.returns
returns c =
    let self = c.args.self.now in
    record {
      step = amend_judged (periods_of self) (roll_of self) c.args.text.now (facts c.in_ok-offer.offer) c.in_ok-offer.ensures.offer c.amend.result (offers_of c.amend.new.self) c.amend.ensures.value c.amend.ensures.after.0;
      days = c.amend.ensures.after.1;
    }
