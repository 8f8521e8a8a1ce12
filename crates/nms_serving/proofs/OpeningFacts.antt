-- The state of a lane's senders and a tape's desks just after opening.
use Rattle.std.proofs.Common.{ℕ, ◌≡◌, ◌<◌, List, [], ◌∷◌, length, map, ap, refl, arith}
use Rattle.std.specs.Prelude.{slice_index_or, replicate, take}
use Rattle.std.specs.List.{AllByRecursion}
use Rattle.std.proofs.lemmas.List.{get_or-replicate, length-replicate}
use Rattle.nms_quote.specs.Merge.{feeds}
use Rattle.nms_quote.specs.Roster.{sizes_of}
use Rattle.nms_quote.specs.declared.feed.Feed.{Feed}
use Rattle.nms_feed.specs.Lane.{Sending, fresh}
use Rattle.nms_fees.specs.Settings.{Settings}
use Rattle.nms_versions.specs.Taped.{Knowing, unseeing}

-- nothing was sent for any of the feeds
none_sent : (lane : _) (fs : List Feed) → AllByRecursion (λ s. s.sent ≡ []) (map (fresh lane) fs)
none_sent lane [] = tt
none_sent lane (f ∷ fs) = (refl, none_sent lane fs)

-- so nothing was sent by senders just opened
pub opened_fresh : (lane : _) (count : ℕ) (senders : List Sending) → senders ≡ map (fresh lane) (take count feeds)
    → AllByRecursion (λ s. s.sent ≡ []) senders
opened_fresh lane count senders are = rw are (none_sent lane (take count feeds))

-- desks just opened have the sizes of the setup's roster
pub opened_sizes : (settings : Settings) (opening : _) (desks : List Knowing) → desks ≡ replicate settings.desks (unseeing opening settings)
    → (k : ℕ) (d : Knowing) → k < length desks → (slice_index_or desks k d).sizes ≡ sizes_of settings.roster
opened_sizes settings opening desks is k d below =
    let many : k < settings.desks = omega (arith, below, ap length is, length-replicate settings.desks (unseeing opening settings)) in
    rw is (ap (λ (it : Knowing). it.sizes) (get_or-replicate settings.desks k (unseeing opening settings) d many))

-- and are of its opening
pub opened_openings : (settings : Settings) (opening : _) (desks : List Knowing)
    → desks ≡ replicate settings.desks (unseeing opening settings)
    → (k : ℕ) (d : Knowing) → k < length desks → (slice_index_or desks k d).opening ≡ opening
opened_openings settings opening desks is k d below =
    let many : k < settings.desks = omega (arith, below, ap length is, length-replicate settings.desks (unseeing opening settings)) in
    rw is (ap (λ (it : Knowing). it.opening) (get_or-replicate settings.desks k (unseeing opening settings) d many))
