-- `request_in`: clause `read`, and `refused` at each way out, by what the matches hold of each option.
use Rattle.std.proofs.Common.{rules, ◌≡◌, ◌∙◌, Bor, Err, codes, IfErr, List, Result, ap, map, refl, subst, sym}
use Rattle.std.specs.Option.{is_some}
use Rattle.clap.specs.Words.{Text, first_of, found_of, rows_of}
use Rattle.nms_serve.specs.CommandLine.{IsClientsFault, IsFaultOf, IsFeedsFault, given_in, shown_client}
use Rattle.nms_serve.specs.Values.{clients_of, feeds_of, stale_of}
use Rattle.nms_serve.specs.declared.words.request.Request.{Request}
use Rattle.nms_serve.specs.declared.words.words_fault.WordsFault.{WordsFault}
use Rattle.nms_serve.proofs.ClientLemmas.{clients_fault, shared_given}
use Rattle.nms_serve.proofs.Defaults.{first_given, values_met}
use Rattle.nms_serve.proofs.FeedLemmas.{feeds_fault}
use Rattle.nms_serve.proofs.words.command_words.request_in.Goals as goal

pub returns-in_err-feeds-clause-refused : goal.returns-in_err-feeds-clause-refused
returns-in_err-feeds-clause-refused c =
    let found = found_of c.args.matches.now in
    let given = given_in (rows_of found) in
    let why = c.in_err-feeds.field-0.0 in
    let values = values_met found (codes "feed") c.get_strs.result _ c.unwrap_or.result c.get_strs.ensures refl c.unwrap_or.ensures in
    let is : c.from_residual.result ≡ Err why = search rules in
    subst (λ (r : Result Request WordsFault). IfErr r (IsFaultOf given)) (sym is)
    (feeds_fault given why (subst (λ (vs : List Text). IsFeedsFault vs why) values c.in_err-feeds.ensures.refused))

pub returns-in_err-clients-clause-refused : goal.returns-in_err-clients-clause-refused
returns-in_err-clients-clause-refused c =
    let found = found_of c.args.matches.now in
    let given = given_in (rows_of found) in
    let why = c.in_err-clients.field-0.0 in
    let values = values_met found (codes "feed") c.get_strs.result _ c.unwrap_or.result c.get_strs.ensures refl c.unwrap_or.ensures in
    let others = values_met found (codes "client") c.get_strs-2.result _ c.unwrap_or-2.result c.get_strs-2.ensures refl
    c.unwrap_or-2.ensures in
    let is : c.from_residual-in_err-clients.result ≡ Err why = search rules in
    subst (λ (r : Result Request WordsFault). IfErr r (IsFaultOf given)) (sym is)
    (clients_fault given why (ap is_some (ap feeds_of (sym values) ∙ c.in_ok-feeds.ensures.read))
    (subst (λ (vs : List Text). IsClientsFault vs why) others c.in_err-clients.ensures.refused))

pub returns-then-shares_path-clause-refused : goal.returns-then-shares_path-clause-refused
returns-then-shares_path-clause-refused c =
    let found = found_of c.args.matches.now in
    let values = values_met found (codes "feed") c.get_strs.result _ c.unwrap_or.result c.get_strs.ensures refl c.unwrap_or.ensures in
    let others = values_met found (codes "client") c.get_strs-2.result _ c.unwrap_or-2.result c.get_strs-2.ensures refl
    c.unwrap_or-2.ensures in
    let tape = ap (λ (text : Bor Text). text.now) c.unwrap_or-tape.ensures
    ∙ first_given c.first_value.result _ (first_of (codes "tape") (rows_of found)) refl c.first_value.ensures in (
      map shown_client c.in_ok-clients.clients.items,
      record {
        feeds = ap is_some (ap feeds_of (sym values) ∙ c.in_ok-feeds.ensures.read);
        clients = ap clients_of (sym others) ∙ c.in_ok-clients.ensures.read;
      },
      shared_given c.in_ok-clients.clients.items c.deref.result.now c.unwrap_or-tape.result.now _ c.shares_path.result
          c.deref.ensures.value tape c.shares_path.ensures ∙ c.if-shares_path.true,
    )

pub returns-in_default-clause-refused : goal.returns-in_default-clause-refused
returns-in_default-clause-refused c =
    let found = found_of c.args.matches.now in
    let values = values_met found (codes "feed") c.get_strs.result _ c.unwrap_or.result c.get_strs.ensures refl c.unwrap_or.ensures in
    let others = values_met found (codes "client") c.get_strs-2.result _ c.unwrap_or-2.result c.get_strs-2.ensures refl
    c.unwrap_or-2.ensures in
    let tape = ap (λ (text : Bor Text). text.now) c.unwrap_or-tape.ensures
    ∙ first_given c.first_value.result _ (first_of (codes "tape") (rows_of found)) refl c.first_value.ensures in (
      map shown_client c.in_ok-clients.clients.items,
      record {
        feeds = ap is_some (ap feeds_of (sym values) ∙ c.in_ok-feeds.ensures.read);
        clients = ap clients_of (sym others) ∙ c.in_ok-clients.ensures.read;
      },
      shared_given c.in_ok-clients.clients.items c.deref.result.now c.unwrap_or-tape.result.now _ c.shares_path.result
          c.deref.ensures.value tape c.shares_path.ensures ∙ c.if-shares_path.false,
      sym (c.in_default.ensures ∙ ap stale_of c.first_value-2.ensures),
    )

pub returns-clause-read : goal.returns-clause-read
returns-clause-read c =
    let found = found_of c.args.matches.now in
    let values = values_met found (codes "feed") c.get_strs.result _ c.unwrap_or.result c.get_strs.ensures refl c.unwrap_or.ensures in
    let others = values_met found (codes "client") c.get_strs-2.result _ c.unwrap_or-2.result c.get_strs-2.ensures refl
    c.unwrap_or-2.ensures in
    let tape = ap (λ (text : Bor Text). text.now) c.unwrap_or-tape.ensures
    ∙ first_given c.first_value.result _ (first_of (codes "tape") (rows_of found)) refl c.first_value.ensures in
    record {
      setup = c.in_ok-value_text.ensures;
      feeds = ap feeds_of (sym values) ∙ c.in_ok-feeds.ensures.read;
      clients = ap clients_of (sym others) ∙ c.in_ok-clients.ensures.read;
      paths = shared_given c.in_ok-clients.clients.items c.deref.result.now c.unwrap_or-tape.result.now _ c.shares_path.result
          c.deref.ensures.value tape c.shares_path.ensures ∙ c.if-shares_path.false;
      tape = c.in_ok-from_str.ensures.ok ∙ tape;
      strict = c.is_flagged.ensures;
      keep = c.is_flagged-2.ensures;
      wait = c.is_flagged-3.ensures;
      stale = sym (c.in-Some.ensures ∙ ap stale_of c.first_value-2.ensures);
      resume = c.is_flagged-4.ensures;
      check = c.is_flagged-5.ensures;
      status = c.in_ok-value_text-2.ensures;
      ready = c.in_ok-value_text-3.ensures;
      log_time = c.is_flagged-6.ensures;
      times = c.in_ok-value_text-4.ensures;
      recorded = c.in_ok-value_text-5.ensures;
      sync = c.in_ok-value_text-6.ensures;
    }
