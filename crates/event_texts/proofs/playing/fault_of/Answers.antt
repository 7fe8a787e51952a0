use Rattle.std.proofs.Common.{ap, sym}
use Rattle.event_texts.specs.Played.{fault_with}
use Rattle.event_texts.proofs.playing.fault_of.Goals as goal

pub returns-in-NotReady : goal.returns-in-NotReady
returns-in-NotReady g c = record {
  words = c.in-Ok.words;
  says = c.in-Ok.ensures;
  is_fault = ap (fault_with c.args.line c.in-Ok.words) (sym c.in-NotReady.is);
}

pub returns-in-NothingToPut : goal.returns-in-NothingToPut
returns-in-NothingToPut g c = record {
  words = c.in-Ok.words;
  says = c.in-Ok.ensures;
  is_fault = ap (fault_with c.args.line c.in-Ok.words) (sym c.in-NothingToPut.is);
}

pub returns-in-LinkEmpty : goal.returns-in-LinkEmpty
returns-in-LinkEmpty g c = record {
  words = c.in-Ok.words;
  says = c.in-Ok.ensures;
  is_fault = ap (fault_with c.args.line c.in-Ok.words) (sym c.in-LinkEmpty.is);
}

pub returns-in-NoSuch : goal.returns-in-NoSuch
returns-in-NoSuch g c = record {
  words = c.in-Ok.words;
  says = c.in-Ok.ensures;
  is_fault = ap (fault_with c.args.line c.in-Ok.words) (sym c.in-NoSuch.is);
}
