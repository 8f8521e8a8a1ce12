-- What was planned on a board that a desk was shown is the best answer on its version.
use Rattle.std.proofs.Common.{ℕ, ◌≡◌, length, refl, ap, sym, subst, ◌∙◌}
use Rattle.nms_quote.specs.Roster.{sizes_of}
use Rattle.nms_quote.specs.Tape.{Tape}
use Rattle.nms_quote.specs.Terms.{Terms}
use Rattle.nms_quote.specs.declared.desk_order.DeskOrder.{DeskOrder}
use Rattle.nms_board.specs.Cells.{Board, StandsFor}
use Rattle.nms_board.specs.Shown.{seen_on}
use Rattle.nms_board.specs.View.{Seen, view_of}
use Rattle.nms_board.proofs.Offered.{seen_stands}
use Rattle.nms_fees.specs.Settings.{Settings}
use Rattle.nms_rules.specs.Accepted.{IsAccepted}
use Rattle.nms_rules.specs.Assignment.{IsOptimal}
use Rattle.nms_rules.specs.Faultless.{given_by}
use Rattle.nms_rules.specs.Usable.{usable}
use Rattle.nms_sweep.specs.Planned.{IsPlanned, Planned}
use Rattle.nms_live.specs.Answering.{IsBestOn, IsFor}
use Rattle.nms_live.specs.Planning.{answer_to}

-- what was planned for an order, on the board of a version
pub record Made (settings : Settings) (order : ℕ × DeskOrder) (board : Board) (tape : Tape) (planned : Planned) : Type 0 where
  pub stands : StandsFor board tape
  pub sizes : board.sizes ≡ sizes_of settings.roster
  pub is_planned : IsPlanned (seen_on board order.1.order.sym) order.1.order settings.fees planned.plan planned.cuts

pub answers_its_order : (settings : Settings) (order : ℕ × DeskOrder) (board : Board) (tape : Tape) (planned : Planned)
    → Made settings order board tape planned → IsFor order (answer_to order planned)
answers_its_order settings order board tape planned made = (refl, refl, made.is_planned.accepted.faultless.order)

pub names_its_version : (settings : Settings) (order : ℕ × DeskOrder) (board : Board) (tape : Tape) (planned : Planned)
    → Made settings order board tape planned → planned.plan.version ≡ length tape
names_its_version settings order board tape planned made = made.is_planned.accepted.faultless.version ∙ made.stands.applied

pub is_best : (settings : Settings) (order : ℕ × DeskOrder) (board : Board) (tape : Tape) (planned : Planned)
    → Made settings order board tape planned → IsBestOn settings tape (answer_to order planned)
is_best settings order board tape planned made =
    let asked : Terms = order.1.order in
    let seen : seen_on board asked.sym ≡ view_of (sizes_of settings.roster) tape asked.sym =
    seen_stands board tape asked.sym made.stands ∙ ap (λ sizes. view_of sizes tape asked.sym) made.sizes in
    let is : IsPlanned (view_of (sizes_of settings.roster) tape asked.sym) asked settings.fees planned.plan planned.cuts =
    subst (λ (s : Seen). IsPlanned s asked settings.fees planned.plan planned.cuts) seen made.is_planned in
    let same : asked ≡ planned.plan.order = sym is.accepted.faultless.order in
    record {
      accepted = subst (λ (t : Terms). IsAccepted (view_of (sizes_of settings.roster) tape t.sym) t settings.fees planned.plan planned.cuts)
          same is.accepted;
      optimal = subst (λ (t : Terms). IsOptimal (usable (view_of (sizes_of settings.roster) tape t.sym) t settings.fees) t.shares
          (given_by planned.plan.legs.items)) same is.optimal;
    }
