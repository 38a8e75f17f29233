-- What the insertion came to in the first rows is what the call answers.
use Rattle.basis.proofs.Standing.{part_form, known_taken, grown_taken, never_full}
use Rattle.basis.proofs.bases.Basis.take_in.Goals as goal

pub returns-in_err-taken-clause-stands : goal.returns-in_err-taken-clause-stands
returns-in_err-taken-clause-stands g c vs s =
    let form = part_form g.C.Coding c.args.self.now.sizes.length c.args.self.now.sizes.rank c.args.self.now.sizes.length c.args.self.now.rows.now vs s.rows.ranked s.rows.room s.rows.form in
    absurd (never_full g.C.Coding c.args.self.now.sizes.length c.args.self.now.sizes.rank c.args.self.now.rows.now c.insert.new.rows vs (g.C.Coding.meant c.args.vector) s.rows
    (c.in_err-taken.ensures.stands c.args.self.now.sizes.length vs c.in_ok-check_long.ensures form).1 c.in_err-taken.ensures.moved.1)

pub returns-in-Grown-clause-stands : goal.returns-in-Grown-clause-stands
returns-in-Grown-clause-stands g c vs s =
    let form = part_form g.C.Coding c.args.self.now.sizes.length c.args.self.now.sizes.rank c.args.self.now.sizes.length c.args.self.now.rows.now vs s.rows.ranked s.rows.room s.rows.form in
    let t = grown_taken g.C.Coding c.args.self.now.sizes.length c.args.self.now.sizes.rank c.args.self.now.rows.now c.insert.new.rows vs (g.C.Coding.meant c.args.vector) s.rows
    c.in_ok-taken.taken c.in-Grown.is c.insert.auto.rows (c.in_ok-taken.ensures.stands c.args.self.now.sizes.length vs c.in_ok-check_long.ensures form) c.in_ok-taken.ensures.moved in
    (t.0, record { live = s.live; rows = t.1 })

pub returns-in_default-clause-stands : goal.returns-in_default-clause-stands
returns-in_default-clause-stands g c vs s =
    let form = part_form g.C.Coding c.args.self.now.sizes.length c.args.self.now.sizes.rank c.args.self.now.sizes.length c.args.self.now.rows.now vs s.rows.ranked s.rows.room s.rows.form in
    let t = known_taken g.C.Coding c.args.self.now.sizes.length c.args.self.now.sizes.rank c.args.self.now.rows.now c.insert.new.rows vs (g.C.Coding.meant c.args.vector) s.rows
    c.in_ok-taken.taken c.in_default.not-Grown (c.in_ok-taken.ensures.stands c.args.self.now.sizes.length vs c.in_ok-check_long.ensures form) c.in_ok-taken.ensures.moved in
    (t.0, record { live = s.live; rows = t.1 })
