-- `request_in`: all that it promises and that a line is never reached.
use Rattle.std.proofs.Common.{◌≡◌, ◌∙◌, true, false, List, Option, Some, None, is_some, option_and_then, option_map, refl, sym, ap}
use Rattle.std.proofs.lemmas.Result.{IfOk-weaker}
use Rattle.std.specs.Box.{box_value}
use Rattle.clap.specs.Matches.{found_of, subcommand_name_of}
use Rattle.clap.specs.Words.{Row, Text, rows_of, subcommand_rows_of}
use Rattle.clap.specs.declared.parser.matches.ArgMatches.{ArgMatches}
use Rattle.clap.specs.declared.parser.matches.ArgMatches.TheViews.{out-ArgMatches, out-SubCommand}
use Rattle.nms_words.specs.CommandLine.{asked_in, asked_of, sub_named}
use Rattle.nms_words.specs.declared.subcommand.Sub.{Sub}
use Rattle.nms_words.proofs.command_words.request_in.Goals as goal

-- what has these two parts is their pair
paired : {B X Y : Type 0} (f : B → X) (g : B → Y) (met : Option B) (x : X) (y : Y) → Some x ≡ option_map f met
    → Some y ≡ option_map (λ (p : X × Y). p.1) (option_map {U = X × Y} (λ b. (f b, g b)) met)
    → option_map {U = X × Y} (λ b. (f b, g b)) met ≡ Some (x, y)
paired f g None x y first second = cc
paired f g (Some m) x y first second = let a : f m ≡ x = cc in let b : g m ≡ y = cc in rw (a, b) refl

-- the subcommand's name and rows are what the matches hold of it
met : (m : ArgMatches) (name : Text) (rows : List Row) → Some name ≡ subcommand_name_of m
    → Some rows ≡ option_map (λ (p : Text × List Row). p.1) (subcommand_rows_of m)
    → subcommand_rows_of m ≡ Some (name, rows)
met m name rows = paired (λ b. (out-SubCommand (box_value b)).name.now) (λ b. rows_of (found_of (out-SubCommand (box_value b)).matches))
    (out-ArgMatches m).subcommand name rows

-- what they ask is what the subcommand of that name asks
asks : (m : ArgMatches) (name : Text) (rows : List Row) (sub : Option Sub) → subcommand_rows_of m ≡ Some (name, rows) → sub ≡ sub_named name
    → asked_of (subcommand_rows_of m) ≡ option_and_then (asked_in rows) sub
asks m name rows sub is named = ap asked_of is ∙ ap (option_and_then (asked_in rows)) (sym named)

pub unreachable-requires : goal.unreachable-requires
unreachable-requires c =
    let rows = rows_of (found_of c.in-Some.inner.now) in
    let is = met c.args.matches.now c.in-Some.name.now rows c.in-Some.ensures.name c.in-Some.ensures.rows in
    let none = asks c.args.matches.now c.in-Some.name.now rows c.named.result is c.named.ensures
    ∙ ap (option_and_then (asked_in rows)) c.in-None.is in
    let no : false ≡ true = ap is_some (sym none) ∙ c.requires in
    cc

pub request_of-requires : goal.request_of-requires
request_of-requires c =
    let rows = rows_of (found_of c.in-Some.inner.now) in
    let is = met c.args.matches.now c.in-Some.name.now rows c.in-Some.ensures.name c.in-Some.ensures.rows in
    let some = asks c.args.matches.now c.in-Some.name.now rows c.named.result is c.named.ensures
    ∙ ap (option_and_then (asked_in rows)) c.in-Some-named.is in
    ap is_some (sym some) ∙ c.requires

pub returns : goal.returns
returns c =
    let rows = rows_of (found_of c.in-Some.inner.now) in
    let is = met c.args.matches.now c.in-Some.name.now rows c.in-Some.ensures.name c.in-Some.ensures.rows in
    let some = asks c.args.matches.now c.in-Some.name.now rows c.named.result is c.named.ensures
    ∙ ap (option_and_then (asked_in rows)) c.in-Some-named.is in
    IfOk-weaker c.request_of.result _ _ (λ request asked. some ∙ sym asked) c.request_of.ensures
