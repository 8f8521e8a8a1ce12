-- `advance`: clauses `more` and `end`, by `reads_on`.
use Rattle.std.proofs.Common.{Bool, Ok, ap, ◌∙◌}
use Rattle.csv.specs.Records.{fields_of}
use Rattle.nms_review.proofs.ReadFacts.{reads_on}
use Rattle.nms_review.proofs.tape.taking.advance.Goals as goal

pub returns-then-not-branch-clause-end : goal.returns-then-not-branch-clause-end
returns-then-not-branch-clause-end g c bytes come _ =
    (come.so_far, c.read.ensures.end bytes come.so_far.records come.reads (c.in_ok-read.was ∙ ap (λ (b : Bool). Ok b) c.if-not-branch.true))

pub returns-clause-more : goal.returns-clause-more
returns-clause-more g c bytes come _ =
    let found = c.read.ensures.found bytes come.so_far.records come.reads (c.in_ok-read.was ∙ ap (λ (b : Bool). Ok b) c.if-not-branch.false)
    in
    reads_on g.R.Read.remaining c.args.setup.now bytes c.args.reader.now c.read.new.reader c.args.taking.now.flow c.serve.new.flow
    c.args.taking.now.sent.items c.note_sent.new.sent.items c.args.done (fields_of c.read.new.row) c.clear.new.self.items
    c.serve.new.out.items c.in-Ok.field-0 come found c.in-Ok.ensures.served c.in-Ok.ensures.room c.in-Ok-note_sent.ensures
