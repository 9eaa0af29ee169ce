-- `lines::finding::find` meets its contract: by the place in what is left, or at the end.
use Rattle.lines.proofs.Parting.{finds_some, finds_none}
use Rattle.lines.proofs.finding.find.Goals as goal

pub returns-in-Some : goal.returns-in-Some
returns-in-Some c = finds_some _ _ _ c.requires c.place.ensures c.in-Some.is

pub returns-in-None : goal.returns-in-None
returns-in-None c = finds_none _ _ _ c.requires c.place.ensures c.in-None.is
