-- The ends of the lane as the feeds' workers get them, and what the desks' workers came back with.
use Rattle.std.proofs.Common.{ℕ, ◌≡◌, ◌<◌, None, List, [], ◌∷◌, length, map, replicate, take, refl, ap, sym, ◌∙◌, arith}
use Rattle.std.specs.Prelude.{slice_index_or}
use Rattle.std.specs.List.{AllByRecursion}
use Rattle.std.proofs.Math.ListN.{length-map}
use Rattle.std.proofs.lemmas.List.{get_or-replicate, length-replicate}
use Rattle.std.specs.declared.thread.PromisedHandle.{PromisedHandle}
use Rattle.nms_quote.specs.Merge.{feeds}
use Rattle.nms_quote.specs.declared.feed.Feed.{Feed}
use Rattle.nms_feed.specs.Lane.{Sending, Taking, fresh}
use Rattle.nms_fees.specs.Settings.{Settings}
use Rattle.nms_versions.specs.Pages.{Book}
use Rattle.nms_versions.specs.Taped.{Knowing, Taped, unseeing}
use Rattle.nms_live.specs.Answering.{IsDesked}
use Rattle.nms_live.specs.Crew.{AreBack, AreFreshEnds, AreReady, AreStarted, IsFresh, KeepsJob, texts_of}
use Rattle.nms_live.specs.Keeping.{Keeping}
use Rattle.nms_quote.specs.declared.desk_order.DeskOrder.{DeskOrder}
use Rattle.nms_live.specs.declared.desk_work.DeskJob.{DeskJob}
use Rattle.nms_live.specs.declared.desk_work.Desked.{Desked}
use Rattle.nms_live.specs.declared.given.Given.{Given}
use Rattle.nms_live.proofs.LeftFacts.{some_of}

-- each worker kept its promise, so each desk is back
pub back_all : (settings : Settings) (orders : List DeskOrder) (opening : Book) (desks : List Knowing)
    (handles : List (PromisedHandle Desked DeskJob)) (backs : List Desked)
    → AreReady settings opening desks → length handles ≡ length desks → length backs ≡ length handles
    → AreStarted settings orders desks handles
    → ((k : ℕ) (d : Desked) (h : PromisedHandle Desked DeskJob) → k < length backs
    → KeepsJob (slice_index_or handles k h).promise (slice_index_or backs k d))
    → AreBack settings orders opening backs
back_all settings orders opening desks handles backs ready one two started keeps = λ k d below.
    let k_handles : k < length handles = omega (arith, below, two) in
    let k_desks : k < length desks = omega (arith, k_handles, one) in
    let h = some_of handles (omega (arith, k_handles)) in
    let e = some_of desks (omega (arith, k_desks)) in
    let kept = started k e h k_handles (slice_index_or backs k d) (keeps k d h below) in
    let here = ready k e k_desks in
    record {
      opening_is = kept.opening ∙ here.0;
      sizes_are = kept.sizes ∙ here.1;
      worked = kept.worked;
      stopped = kept.stopped;
    }

-- a desk's worker keeps what its job says
pub desked_by_job : (settings : Settings) (orders : List (ℕ × DeskOrder)) (desk : Knowing) (job : DeskJob) (back : Desked)
    → job.setup.value ≡ settings → job.mine.value.orders.items ≡ orders → job.desk.value ≡ desk → KeepsJob job back
    → IsDesked settings orders desk back
desked_by_job settings orders desk job back of_setup of_orders of_desk kept = rw (sym of_setup, sym of_orders, sym of_desk) kept

-- desks that were just opened are ready
pub ready_all : (settings : Settings) (opening : Book) (desks : List Knowing) → desks ≡ replicate settings.desks (unseeing opening settings)
    → AreReady settings opening desks
ready_all settings opening desks is = λ k d below.
    let new = unseeing opening settings in
    let few : k < settings.desks = omega (arith, below, ap length is, length-replicate settings.desks new) in
    let here : slice_index_or desks k d ≡ new = ap (λ (l : List Knowing). slice_index_or l k d) is
    ∙ get_or-replicate settings.desks k new d few in
    (ap (λ (w : Knowing). w.opening) here, ap (λ (w : Knowing). w.sizes) here)

-- they are ready for the keeper of their tape
pub ready_for : (settings : Settings) (taped : Taped) (keeping : Keeping) (desks : List Knowing)
    → keeping ≡ record { taped = taped; listed = []; stop = None }
    → desks ≡ replicate settings.desks (unseeing taped.opening settings) → AreReady settings keeping.taped.opening desks
ready_for settings taped keeping desks kept is = rw kept (ready_all settings taped.opening desks is)

-- their number is the setup's
pub count_of_all : (settings : Settings) (opening : Book) (desks : List Knowing)
    → desks ≡ replicate settings.desks (unseeing opening settings) → length desks ≡ settings.desks
count_of_all settings opening desks is = rw is (length-replicate settings.desks (unseeing opening settings))

-- the senders of a lane that was just opened are of it, and nothing was sent by them
fresh_lanes : (lane : _) (fs : List Feed) → AllByRecursion (λ s. s.lane ≡ lane) (map (fresh lane) fs)
fresh_lanes lane [] = tt
fresh_lanes lane (f ∷ fs) = (refl, fresh_lanes lane fs)

fresh_all : (lane : _) (fs : List Feed) → AllByRecursion IsFresh (map (fresh lane) fs)
fresh_all lane [] = tt
fresh_all lane (f ∷ fs) = (refl, fresh_all lane fs)

fresh_feeds : (lane : _) (fs : List Feed) → map (λ s. s.feed) (map (fresh lane) fs) ≡ fs
fresh_feeds lane [] = refl
fresh_feeds lane (f ∷ fs) = ap (λ l. f ∷ l) (fresh_feeds lane fs)

-- the ends of a lane that was just opened for n texts
pub fresh_ends : (given : Given) (count : ℕ) (taker : Taking) (senders : List Sending) → senders ≡ map (fresh taker.lane) (take count feeds)
    → taker.senders ≡ count → taker.taken ≡ []
    → length given.feeds.items ≡ count → AreFreshEnds (texts_of given) taker senders
fresh_ends given count taker senders are counted none many = record {
  of_lane = record {
    one_lane = rw are (fresh_lanes taker.lane (take count feeds));
    in_order = rw are (fresh_feeds taker.lane (take count feeds)) ∙ ap (λ n. take n feeds) (sym counted);
  };
  all = counted ∙ sym many ∙ sym (length-map given.feeds.items (λ text. text.items));
  fresh = rw are (fresh_all taker.lane (take count feeds));
  none_taken = none;
}
