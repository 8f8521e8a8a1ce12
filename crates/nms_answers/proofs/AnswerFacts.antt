-- What was appended is the script's answer on the version that the desk looked at.
use Rattle.std.proofs.Common.{ℕ, ◌≡◌, ◌<◌, ◌++◌, List, [], ◌∷◌, Option, Ok, length, refl, ap, sym, subst, ◌∙◌}
use Rattle.std.specs.Prelude.{All}
use Rattle.nms_quote.specs.Roster.{Sizes, sizes_of}
use Rattle.nms_quote.specs.Tape.{Tape}
use Rattle.nms_quote.specs.Terms.{Terms}
use Rattle.nms_quote.specs.declared.certificate.Cut.{Cut}
use Rattle.nms_quote.specs.declared.plan.Plan.{Plan}
use Rattle.nms_quote.specs.declared.side_quote.Side.{Side}
use Rattle.nms_quote.specs.declared.side_quote.Side.TheVariants.{Bid, Offer}
use Rattle.nms_board.specs.View.{Seen, rows_on, view_of}
use Rattle.nms_board.specs.declared.row.Row.{Row}
use Rattle.nms_board.proofs.Offered.{view_parts}
use Rattle.nms_nbbo.specs.Best.{IsBestOf}
use Rattle.nms_fees.specs.Settings.{Settings}
use Rattle.nms_lines.specs.PlanText.{plan_records}
use Rattle.nms_lines.specs.Text.{text_of}
use Rattle.nms_rules.specs.Accepted.{IsAccepted}
use Rattle.nms_rules.specs.Through.{traded_through_at}
use Rattle.nms_flow.specs.Run.{Event}
use Rattle.nms_flow.specs.declared.step.Step.TheVariants as step
use Rattle.nms_flow.specs.declared.reply.Reply.TheVariants as reply
use Rattle.nms_text.specs.Answers.{best_record, through_records}
use Rattle.nms_versions.specs.Taped.{Knowing}
use Rattle.nms_answers.specs.Told.{AppendsOn, Looks, TellsBest, TellsPlan, TellsThrough, look_at}

-- what a desk of the roster sees of a version is what the machine of a script shows of it
seen_there : (settings : Settings) (old : Knowing) (number symbol : ℕ) (version : Tape) (view : Seen)
    → old.sizes ≡ sizes_of settings.roster → view ≡ view_of old.sizes version symbol
    → look_at settings number symbol version ≡ (step.Look number symbol, Ok (reply.Seen view)) ∷ []
seen_there settings old number symbol version view sizes is =
    let same : view_of (sizes_of settings.roster) version symbol ≡ view =
    ap (λ (s : Sizes). view_of s version symbol) (sym sizes) ∙ sym is in
    ap (λ (v : Seen). let e : List Event = (step.Look number symbol, Ok (reply.Seen v)) ∷ [] in e) same

-- the rows that it sees are of the roster's participants
pub parts_seen : (settings : Settings) (old : Knowing) (symbol : ℕ) (version : Tape) (view : Seen)
    → old.sizes ≡ sizes_of settings.roster → view ≡ view_of old.sizes version symbol
    → (side : Side) → All (λ (row : Row). row.part < length settings.roster.parts) (rows_on side view)
parts_seen settings old symbol version view sizes is side =
    let there : All (λ (row : Row). row.part < (sizes_of settings.roster).parts) (rows_on side (view_of old.sizes version symbol)) =
    subst (λ (s : Sizes). All (λ (row : Row). row.part < s.parts) (rows_on side (view_of old.sizes version symbol))) sizes
    (view_parts old.sizes version symbol side) in
    subst (λ (v : Seen). All (λ (row : Row). row.part < (sizes_of settings.roster).parts) (rows_on side v)) (sym is) there

pub tells_best : (settings : Settings) (old new : Knowing) (number symbol : ℕ) (version : Tape) (view : Seen) (bid offer : Option Row)
    (before after : List ℕ)
    → old.sizes ≡ sizes_of settings.roster → view ≡ view_of old.sizes version symbol → Looks old new version
    → IsBestOf Bid (rows_on Bid view) bid → IsBestOf Offer (rows_on Offer view) offer
    → after ≡ before ++ text_of (best_record settings.roster number view bid offer ∷ [])
    → AppendsOn (TellsBest settings number symbol) old new before after
tells_best settings old new number symbol version view bid offer before after sizes is looks best_bid best_offer text = (
  version,
  best_record settings.roster number view bid offer ∷ [],
  looks,
  (view, bid, offer, seen_there settings old number symbol version view sizes is, best_bid, best_offer, refl),
  text,
)

pub tells_through : (settings : Settings) (old new : Knowing) (number symbol price : ℕ) (version : Tape) (view : Seen)
    (before after : List ℕ)
    → old.sizes ≡ sizes_of settings.roster → view ≡ view_of old.sizes version symbol → Looks old new version
    → after ≡ before ++ text_of (through_records settings.roster number view price (traded_through_at view price))
    → AppendsOn (TellsThrough settings number symbol price) old new before after
tells_through settings old new number symbol price version view before after sizes is looks text = (
  version,
  through_records settings.roster number view price (traded_through_at view price),
  looks,
  (view, seen_there settings old number symbol version view sizes is, refl),
  text,
)

pub tells_plan : (settings : Settings) (old new : Knowing) (number : ℕ) (order : Terms) (version : Tape) (view : Seen) (plan : Plan)
    (cuts : List Cut) (before after : List ℕ)
    → old.sizes ≡ sizes_of settings.roster → view ≡ view_of old.sizes version order.sym → Looks old new version
    → IsAccepted view order settings.fees plan cuts
    → after ≡ before ++ text_of (plan_records settings.roster plan cuts)
    → AppendsOn (TellsPlan settings number order) old new before after
tells_plan settings old new number order version view plan cuts before after sizes is looks accepted text = (
  version,
  plan_records settings.roster plan cuts,
  looks,
  (view, plan, cuts, seen_there settings old number order.sym version view sizes is, accepted, refl),
  text,
)
