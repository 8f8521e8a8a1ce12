-- Words that name a subcommand leave the rest of them to it.
use Rattle.std.proofs.Common.{◌≡◌, ◌∙◌, ◌++◌, true, false, List, [], ◌∷◌, Some, codes, fold, refl, ap, sym, append-nil, append_assoc}
use Rattle.clap.specs.Walk.{Names, Walk, idle, nothing_held, stop_after, walked}
use Rattle.clap.specs.Words.{Rule, Shape, Text, built, subcommand_of, takes}
use Rattle.clap.specs.Simple.{entered, names_of}
use Rattle.clap.specs.Takes.{entered_passes, walk_passes}
use Rattle.clap.proofs.OnLiterals.{clap_on_literals}
use Rattle.nms_words.specs.CommandLine.{name_of, tool}
use Rattle.nms_words.specs.declared.subcommand.Sub.{Sub}
use Rattle.nms_words.specs.declared.subcommand.Sub.TheVariants.{Script, Report, Plan, Check, Live}

-- the state of the walk after it met a subcommand, with the arguments after its name
abbrev met : Text → List Text → Walk
met name after = record { held = nothing_held; waiting = idle; position = 1; is_trailing = false; stopped = Some (name, after) }

met_rest : (rules : List Rule) (names : Names) (name : Text) (before rest : List Text)
    → fold (walked rules names) (met name before) rest ≡ met name (before ++ rest)
unfolding walked
met_rest rules names name before [] = ap (met name) (sym (append-nil before))
met_rest rules names name before (word ∷ rest) = met_rest rules names name (before ++ word ∷ []) rest
    ∙ ap (met name) (append_assoc before (word ∷ []) rest)

met_passes : (above : Shape) (names : Names) (name : Text) (before rest : List Text) → walk_passes above names (met name before) rest ≡ true
unfolding walked walk_passes
met_passes above names name before [] = refl
met_passes above names name before (word ∷ rest) = met_passes above names name (before ++ word ∷ []) rest

abbrev pub above : Shape
above = (built tool).top

abbrev sub_names : Names
sub_names = names_of (built tool)

named_stops : (sub : Sub) (rest : List Text) → stop_after above.rules sub_names (name_of sub ∷ rest) ≡ Some (name_of sub, rest)
unfolding clap_on_literals
named_stops Script rest = ap (λ (w : Walk). w.stopped) (met_rest above.rules sub_names (codes "script") [] rest)
named_stops Report rest = ap (λ (w : Walk). w.stopped) (met_rest above.rules sub_names (codes "report") [] rest)
named_stops Plan rest = ap (λ (w : Walk). w.stopped) (met_rest above.rules sub_names (codes "plan") [] rest)
named_stops Check rest = ap (λ (w : Walk). w.stopped) (met_rest above.rules sub_names (codes "check") [] rest)
named_stops Live rest = ap (λ (w : Walk). w.stopped) (met_rest above.rules sub_names (codes "live") [] rest)

-- the subcommand reads the rest
pub named_reads : (sub : Sub) (rest : List Text) → subcommand_of tool (name_of sub ∷ rest) ≡ entered (built tool) (Some (name_of sub, rest))
named_reads sub rest = ap (entered (built tool)) (named_stops sub rest)

-- the arguments are taken if the subcommand takes the rest
pub named_takes : (sub : Sub) (rest : List Text) → entered_passes (built tool) (Some (name_of sub, rest)) ≡ true
    → takes tool (name_of sub ∷ rest) ≡ true
unfolding clap_on_literals
named_takes Script rest passes = rw (
  met_rest above.rules sub_names (codes "script") [] rest,
  met_passes above sub_names (codes "script") [] rest,
  passes,
) refl
named_takes Report rest passes = rw (
  met_rest above.rules sub_names (codes "report") [] rest,
  met_passes above sub_names (codes "report") [] rest,
  passes,
) refl
named_takes Plan rest passes = rw (
  met_rest above.rules sub_names (codes "plan") [] rest,
  met_passes above sub_names (codes "plan") [] rest,
  passes,
) refl
named_takes Check rest passes = rw (
  met_rest above.rules sub_names (codes "check") [] rest,
  met_passes above sub_names (codes "check") [] rest,
  passes,
) refl
named_takes Live rest passes = rw (
  met_rest above.rules sub_names (codes "live") [] rest,
  met_passes above sub_names (codes "live") [] rest,
  passes,
) refl
