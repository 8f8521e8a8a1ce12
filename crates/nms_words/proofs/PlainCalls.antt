-- A plain call is one that the parser takes, and it asks what its words say.
use Rattle.std.proofs.Common.{◌≡◌, ◌∙◌, ◌++◌, true, List, [], ◌∷◌, Some, fold, length, refl, ap, subst, sym, arith}
use Rattle.std.specs.Prelude.{option_and_then}
use Rattle.clap.specs.Walk.{rows_after}
use Rattle.clap.specs.Words.{Row, Text, takes}
use Rattle.clap.proofs.OnLiterals.{clap_on_literals}
use Rattle.nms_words.specs.CommandLine.{AreCounted, Asked, asked_by, asked_in, asked_of, bare, name_of, script_alone, tool}
use Rattle.nms_words.specs.PlainCall.{Choice, IsPlainCall, choices_words, chosen}
use Rattle.nms_words.proofs.Leaves.{Answers, AreTaken, leaf, leaf_options, leaf_single, level_of, named, rows_of_level}
use Rattle.nms_words.proofs.NamedSubs.{named_reads, named_takes}
use Rattle.nms_words.proofs.Options.{Once, check_answers, each_once, live_answers, plan_answers, report_answers, script_answers}
use Rattle.nms_words.proofs.Options.{setup_alone}
use Rattle.nms_words.proofs.WalkSteps.{IsCall, call_passes, call_rows}
use Rattle.nms_words.specs.declared.subcommand.Sub.{Sub}
use Rattle.nms_words.specs.declared.subcommand.Sub.TheVariants.{Script, Report, Plan, Check, Live}

-- the parser takes the arguments, and they ask for this
pub record IsTaken (words : List Text) (asked : Asked) : Type 0 where
  pub taken : takes tool words ≡ true
  pub asked_for : asked_by words ≡ Some asked

pub nothing : IsTaken [] script_alone
unfolding clap_on_literals
nothing = record { taken = refl; asked_for = refl }

-- by how many words there are, and which options
answers : (sub : Sub) (own : List Text) (choices : List Choice) → AreCounted sub (length own) → AreTaken sub choices → Once choices
    → Answers sub own choices
answers Script [] choices counted taken once =
    let alone = setup_alone choices taken once in
    subst (λ (cs : List Choice). Answers Script [] cs) alone.1 (script_answers alone.0)
answers Script (word ∷ rest) choices counted taken once = let no = counted.1 in absurd (omega arith)
answers Report (changes ∷ symbol ∷ []) choices counted taken once =
    let alone = setup_alone choices taken once in
    subst (λ (cs : List Choice). Answers Report (changes ∷ symbol ∷ []) cs) alone.1 (report_answers changes symbol alone.0)
answers Report [] choices counted taken once = let no = counted.0 in absurd (omega arith)
answers Report (a ∷ []) choices counted taken once = let no = counted.0 in absurd (omega arith)
answers Report (a ∷ b ∷ c ∷ rest) choices counted taken once = let no = counted.1 in absurd (omega arith)
answers Check (changes ∷ plan ∷ []) choices counted taken once =
    let alone = setup_alone choices taken once in
    subst (λ (cs : List Choice). Answers Check (changes ∷ plan ∷ []) cs) alone.1 (check_answers changes plan alone.0)
answers Check [] choices counted taken once = let no = counted.0 in absurd (omega arith)
answers Check (a ∷ []) choices counted taken once = let no = counted.0 in absurd (omega arith)
answers Check (a ∷ b ∷ c ∷ rest) choices counted taken once = let no = counted.1 in absurd (omega arith)
answers Live own choices counted taken once =
    let alone = setup_alone choices taken once in
    subst (λ (cs : List Choice). Answers Live own cs) alone.1 (live_answers own counted alone.0)
answers Plan (changes ∷ side ∷ symbol ∷ shares ∷ limit ∷ []) choices counted taken once =
    plan_answers changes side symbol shares limit choices once
answers Plan [] choices counted taken once = let no = counted.0 in absurd (omega arith)
answers Plan (a ∷ []) choices counted taken once = let no = counted.0 in absurd (omega arith)
answers Plan (a ∷ b ∷ []) choices counted taken once = let no = counted.0 in absurd (omega arith)
answers Plan (a ∷ b ∷ c ∷ []) choices counted taken once = let no = counted.0 in absurd (omega arith)
answers Plan (a ∷ b ∷ c ∷ d ∷ []) choices counted taken once = let no = counted.0 in absurd (omega arith)
answers Plan (a ∷ b ∷ c ∷ d ∷ e ∷ f ∷ rest) choices counted taken once = let no = counted.1 in absurd (omega arith)

call_taken_by : (sub : Sub) (own : List Text) (choices : List Choice) → IsCall (leaf sub).rules own choices → Answers sub own choices
    → IsTaken ((name_of sub ∷ own) ++ choices_words choices) (fold chosen (bare sub own) choices)
call_taken_by sub own choices is answer =
    let rest = own ++ choices_words choices in
    let rows = rows_after (leaf sub).rules [] rest in
    record {
      taken = named_takes sub rest (level_of sub rest ∙ call_passes (leaf sub) own choices is answer.passes);
      asked_for = ap asked_of (named_reads sub rest ∙ rows_of_level sub rest)
          ∙ ap (option_and_then (asked_in rows)) (named sub)
          ∙ ap (λ (held : List Row). asked_in held sub) (call_rows (leaf sub) own choices is)
          ∙ answer.asks;
    }

pub plain_taken : (words : List Text) (asked : Asked) → IsPlainCall words asked → IsTaken words asked
plain_taken words asked is =
    let sub = asked.command in
    let call : IsCall (leaf sub).rules asked.own is.choices = record {
      single = leaf_single sub;
      have = leaf_options sub is.choices is.taken;
      plain = is.plain;
      plain_choices = is.plain_choices;
    } in
    let taken = call_taken_by sub asked.own is.choices call
    (answers sub asked.own is.choices is.counted is.taken (each_once is.choices is.once)) in
    subst (λ (ws : List Text). IsTaken ws asked) (sym is.spelled)
    (subst (λ (a : Asked). IsTaken ((name_of asked.command ∷ asked.own) ++ choices_words is.choices) a) (sym is.asked_so) taken)
