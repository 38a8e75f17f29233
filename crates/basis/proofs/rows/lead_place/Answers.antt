-- The lead that the coding finds is the vector's lead within the width.
use Rattle.std.proofs.Common.{sym, ◌∙◌}
use Rattle.algebra.proofs.Leads.{lead_in_none}
use Rattle.basis.proofs.Leading.{lead_is}
use Rattle.basis.proofs.rows.lead_place.Goals as goal

pub returns-in-Some : goal.returns-in-Some
returns-in-Some g c = lead_is g.C.Coding.field g.C.Coding.width c.in-Some.lead.place c.in-Some.lead.digit (g.C.Coding.meant c.args.row) (g.met.C.Coding.beyond c.args.row) c.in-Some.ensures

pub returns-in-None : goal.returns-in-None
returns-in-None g c = c.width.ensures ∙ sym (lead_in_none g.C.Coding.field g.C.Coding.width (g.C.Coding.meant c.args.row) c.in-None.ensures)
