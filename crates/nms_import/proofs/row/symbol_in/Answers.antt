-- `symbol_in`: clause `symbol`, by what `replace` and `find_sym` promise.
use Rattle.std.proofs.Common.{ap, map, ◌∙◌}
use Rattle.nms_quote.specs.Roster.{place_in}
use Rattle.nms_import.specs.Mapping.{replaced}
use Rattle.nms_import.proofs.row.symbol_in.Goals as goal

pub returns-clause-symbol : goal.returns-clause-symbol
returns-clause-symbol c =
    c.find_sym.ensures.place
    ∙ ap (place_in c.args.roster.now.syms)
    (c.deref-2.ensures.value ∙ c.in_ok-replace.ensures ∙ ap (λ pairs. map (replaced pairs) c.args.text.now) c.deref.ensures.value)
