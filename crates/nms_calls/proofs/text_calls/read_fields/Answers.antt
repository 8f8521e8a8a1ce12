-- `read_fields`: the fields are those that the text is split into.
use Rattle.std.proofs.Common.{rules, tests, of_calls, ◌==◌, ◌++◌, ◌∷◌, [], ◌∙◌, sym, ap}
use Rattle.std.proofs.lemmas.List.{map-append}
use Rattle.std.proofs.lemmas.Iterator.Consumers.{YieldsList-end}
use Rattle.std.proofs.lemmas.Iterator.Splits.{YieldsList-from_slice_split}
use Rattle.csv.specs.Records.{fields_of}
use Rattle.nms_calls.proofs.text_calls.read_fields.Goals as goal

pub loop-field-init : goal.loop-field-init
loop-field-init c = record { can_next = search of_calls; is_finite = search of_calls; fields = search rules; whole = search rules }

pub loop-field-preserved : goal.loop-field-preserved
loop-field-preserved c = record {
  can_next = search of_calls;
  is_finite = search of_calls;
  fields = c.in_ok-push_field.ensures.fields
      ∙ ap (λ more. fields_of c.loop-field.row ++ (more ++ c.in-Some.field.now) ∷ []) c.loop-field.invariant.whole
      ∙ ap (λ fs. fs ++ c.in-Some.field.now ∷ []) c.loop-field.invariant.fields
      ∙ sym (map-append (λ x. x.now) c.loop-field.yielded (c.in-Some.field ∷ []));
  whole = c.in_ok-push_field.ensures.partial;
}

pub returns : goal.returns
returns c =
    let end = YieldsList-end (YieldsList-from_slice_split _ (λ byte. byte == 44) c.args.text.now (cc) (cc) (cc)
    (λ x r q k. search (rules, tests)))
    c.loop-field.yielded _ c.loop-field.yielded_by _ _ c.in-None.is c.next.ensures.steps in
    c.loop-field.invariant.fields ∙ end.0
