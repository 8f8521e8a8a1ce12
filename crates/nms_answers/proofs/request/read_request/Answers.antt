-- `read_request`: clause `look`, by `looks_read`.
use Rattle.std.proofs.Common.{ℕ, ◌≡◌, true, ap, sym, ◌∙◌}
use Rattle.csv.specs.Records.{fields_of}
use Rattle.nms_quote.specs.Roster.{Listing}
use Rattle.nms_lines.specs.Layout.{field, kind_named}
use Rattle.nms_lines.specs.Lines.{reading}
use Rattle.nms_lines.specs.declared.line.Reading.TheVariants as source
use Rattle.nms_answers.specs.Requests.{is_asked}
use Rattle.nms_answers.proofs.RequestFacts.{looks_read}
use Rattle.nms_answers.proofs.request.read_request.Goals as goal

pub returns-clause-look : goal.returns-clause-look
returns-clause-look c =
    let fields = fields_of c.args.row.now in
    let named : c.kind_named.result ≡ kind_named (field fields 0) = c.kind_named.ensures ∙ ap kind_named c.field.ensures in
    let asked : is_asked (kind_named (field fields 0)) ≡ true = ap is_asked (sym named) ∙ sym c.is_asked.ensures ∙ c.if-not-is_asked.false
    in
    looks_read c.args.setup.now fields c.read_line.result asked
    (c.read_line.ensures.line ∙ ap (λ (r : Listing). reading r (source.Script c.desks-desks.result) fields) c.roster.ensures
    ∙ ap (λ (d : ℕ). reading c.args.setup.now.roster (source.Script d) fields) c.desks-desks.ensures.value)
