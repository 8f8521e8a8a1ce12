-- A client's stream is cut by epochs: request by request, from the last on.
use Rattle.std.proofs.Common.{ℕ, ◌≡◌, ◌+◌, ◌<◌, ◌≤◌, inl, inr, List, [], ◌∷◌, ◌++◌, length, map, Option, Some, None, refl, sym, ap}
use Rattle.std.proofs.Common.{subst, ◌∙◌, arith, append_assoc, length-append}
use Rattle.std.proofs.Math.Nat.{le-max_left, max-le}
use Rattle.std.proofs.lemmas.Bool.{eq-eqb}
use Rattle.nms_quote.specs.Tape.{Tape}
use Rattle.nms_fees.specs.Settings.{Settings}
use Rattle.nms_lines.specs.Layout.{Record}
use Rattle.nms_versions.specs.Taped.{AllBegin, Knowing, longest_of}
use Rattle.nms_answers.specs.Epochs.{GoesOver, epoch_line}
use Rattle.nms_answers.specs.Requests.{AnswersRequest, Sees}
use Rattle.nms_answers.specs.Streams.{AnswersFrom, ServesFrom}
use Rattle.nms_answers.specs.declared.epoch_desk.EpochDesk.{EpochDesk}
use Rattle.nms_answers.specs.ServedEpoch.{Asked, NeverFall, known_after}
use Rattle.nms_answers.specs.Stretches.{AreStretches, Stretch, StreamsAreCut, asked_in, shown_in, told_in}

-- a version that begins with all these is no shorter than the longest
no_shorter : (seen : Tape) (known : List Tape) → AllBegin seen known → longest_of known ≤ length seen
no_shorter seen [] all = omega arith
no_shorter seen (one ∷ known) all =
    max-le (omega (arith, ap (λ (t : Tape). length t) all.0.1, length-append one all.0.0)) (no_shorter seen known all.1)

-- a desk that looks knows a version at least as long as it did
sees_on : (old new : Knowing) (look : Option Tape) (known : ℕ) → Sees old new look → known ≤ longest_of old.known
    → (known ≤ known_after known look) × (known_after known look ≤ longest_of new.known)
sees_on old new None known same le = (omega arith, subst (λ (k : Knowing). known ≤ longest_of k.known) (sym same) le)
sees_on old new (Some seen) known looks le = (
  omega (arith, le, no_shorter seen old.known looks.0),
  subst (λ (k : Knowing). length seen ≤ longest_of k.known) (sym looks.1) (le-max_left (length seen) (longest_of old.known)),
)

-- what the rest of a stream is: what is still of this epoch, and the stretches of later ones
record Rest (settings : Settings) (number : ℕ) (requests : List Record) (epoch known : ℕ) (looks : List (Option Tape))
    (told shown : List Record) : Type 0 where
  here : List Asked
  here_told : List Record
  later : List Stretch
  answers : AnswersFrom settings number (map (λ (a : Asked). a.fields) here) (map (λ (a : Asked). a.look) here) here_told
  rising : NeverFall known here
  are : AreStretches settings (number + length here) (epoch + 1) later
  fields : map (λ (a : Asked). a.fields) (here ++ asked_in later) ≡ requests
  seen : map (λ (a : Asked). a.look) (here ++ asked_in later) ≡ looks
  tells : here_told ++ told_in later ≡ told
  shows : here_told ++ shown_in epoch later ≡ shown

-- a request in the same epoch comes before the rest
stays : (settings : Settings) (number : ℕ) (fields : Record) (requests : List Record) (epoch known : ℕ) (look : Option Tape)
    (looks : List (Option Tape)) (now later : List Record) (last : List Record)
    → AnswersRequest settings number fields look now → known ≤ known_after known look
    → Rest settings (number + 1) requests epoch (known_after known look) looks later last
    → Rest settings number (fields ∷ requests) epoch known (look ∷ looks) (now ++ later) (now ++ last)
unfolding AnswersFrom
stays settings number fields requests epoch known look looks now later last is le rest = record {
  here = record { fields = fields; look = look } ∷ rest.here;
  here_told = now ++ rest.here_told;
  later = rest.later;
  answers = (look, map (λ (a : Asked). a.look) rest.here, now, rest.here_told, refl, refl, is, rest.answers);
  rising = (le, rest.rising);
  are = subst (λ (n : ℕ). AreStretches settings n (epoch + 1) rest.later) (omega arith) rest.are;
  fields = ap (λ (l : List Record). fields ∷ l) rest.fields;
  seen = ap (λ (l : List (Option Tape)). look ∷ l) rest.seen;
  tells = append_assoc now rest.here_told (told_in rest.later) ∙ ap (λ (l : List Record). now ++ l) rest.tells;
  shows = append_assoc now rest.here_told (shown_in epoch rest.later) ∙ ap (λ (l : List Record). now ++ l) rest.shows;
}

-- one in a later epoch begins a stretch
goes_over : (settings : Settings) (number : ℕ) (requests : List Record) (first epoch known : ℕ) (looks : List (Option Tape))
    (told shown : List Record)
    → first < epoch → Rest settings number requests epoch 0 looks told shown
    → Rest settings number requests first known looks told (epoch_line first epoch ++ shown)
unfolding AnswersFrom
goes_over settings number requests first epoch known looks told shown rises rest =
    let stretch : Stretch =
    record { epoch = epoch; client = record { first = number; asked = rest.here; told = rest.here_told } } in
    record {
      here = [];
      here_told = [];
      later = stretch ∷ rest.later;
      answers = (refl, refl);
      rising = tt;
      are = (
        omega (arith, rises),
        omega arith,
        subst (λ (n : ℕ). AnswersFrom settings n (map (λ (a : Asked). a.fields) rest.here)
            (map (λ (a : Asked). a.look) rest.here) rest.here_told) (omega arith) rest.answers,
        rest.rising,
        subst (λ (n : ℕ). AreStretches settings n (epoch + 1) rest.later) (omega arith) rest.are,
      );
      fields = rest.fields;
      seen = rest.seen;
      tells = rest.tells;
      shows = ap (λ (l : List Record). epoch_line first epoch ++ l) rest.shows;
    }

-- no line is before an answer in the same epoch
no_line : (first epoch : ℕ) → epoch ≡ first → epoch_line first epoch ≡ []
no_line first epoch same = rw (eq-eqb epoch first same) refl

rest_of : (settings : Settings) (number : ℕ) (requests : List Record) (old new : EpochDesk) (looks : List (Option Tape))
    (told shown : List Record) (known : ℕ)
    → known ≤ longest_of old.desk.known → ServesFrom settings number requests old new looks told shown
    → Rest settings number requests old.epoch known looks told shown
unfolding ServesFrom AnswersFrom
rest_of settings number [] old new looks told shown known le is = record {
  here = [];
  here_told = [];
  later = [];
  answers = (refl, refl);
  rising = tt;
  are = tt;
  fields = refl;
  seen = sym is.1;
  tells = sym is.2;
  shows = sym is.3;
}
rest_of settings number (fields ∷ requests) old new looks told shown known le
    (next, look, rest, now, later, first, last, looks_are, told_is, shown_is, on, serves) =
    by_epoch (λ more bound. rest_of settings (number + 1) requests next new rest later last more bound serves) on.1
  where
    from : ((more : ℕ) → more ≤ longest_of next.desk.known → Rest settings (number + 1) requests next.epoch more rest later last)
        → (known : ℕ) → known ≤ longest_of on.0.desk.known
        → Rest settings number (fields ∷ requests) next.epoch known (look ∷ rest) (now ++ later) (now ++ last)
    from again known le =
        let sees = sees_on on.0.desk next.desk look known on.2 le in
        stays settings number fields requests next.epoch known look rest now later last on.4 sees.0
        (again (known_after known look) sees.1)

    shown_so : epoch_line old.epoch next.epoch ++ (now ++ last) ≡ shown
    shown_so = sym (append_assoc (epoch_line old.epoch next.epoch) now last) ∙ ap (λ (l : List Record). l ++ last) (sym on.5)
        ∙ sym shown_is

    by_epoch : ((more : ℕ) → more ≤ longest_of next.desk.known → Rest settings (number + 1) requests next.epoch more rest later last)
        → GoesOver old on.0
        → Rest settings number (fields ∷ requests) old.epoch known looks told shown
    by_epoch again (inl same) =
        let here : next.epoch ≡ old.epoch = on.3 ∙ ap (λ (d : EpochDesk). d.epoch) same in
        let it = from again known (subst (λ (d : EpochDesk). known ≤ longest_of d.desk.known) (sym same) le) in
        let text : now ++ last ≡ shown =
        ap (λ (l : List Record). l ++ (now ++ last)) (sym (no_line old.epoch next.epoch here)) ∙ shown_so in
        subst (λ (e : ℕ). Rest settings number (fields ∷ requests) e known looks told shown) here
        (subst (λ (l : List (Option Tape)). Rest settings number (fields ∷ requests) next.epoch known l told shown) (sym looks_are)
        (subst (λ (t : List Record). Rest settings number (fields ∷ requests) next.epoch known (look ∷ rest) t shown) (sym told_is)
        (subst (λ (s : List Record). Rest settings number (fields ∷ requests) next.epoch known (look ∷ rest) (now ++ later) s) text it)))
    by_epoch again (inr rises) =
        let over : old.epoch < next.epoch = omega (arith, rises, on.3) in
        let it = goes_over settings number (fields ∷ requests) old.epoch next.epoch known (look ∷ rest) (now ++ later) (now ++ last) over
        (from again 0 (omega arith)) in
        subst (λ (l : List (Option Tape)). Rest settings number (fields ∷ requests) old.epoch known l told shown) (sym looks_are)
        (subst (λ (t : List Record). Rest settings number (fields ∷ requests) old.epoch known (look ∷ rest) t shown) (sym told_is)
        (subst (λ (s : List Record). Rest settings number (fields ∷ requests) old.epoch known (look ∷ rest) (now ++ later) s) shown_so it))

pub streams_are_cut : StreamsAreCut
streams_are_cut settings number requests old new looks told shown serves =
    let rest = rest_of settings number requests old new looks told shown 0 (omega arith) serves in
    record {
      stretches = record { epoch = old.epoch; client = record { first = number; asked = rest.here; told = rest.here_told } } ∷ rest.later;
      are = (omega arith, refl, rest.answers, rest.rising, rest.are);
      fields = rest.fields;
      seen = rest.seen;
      tells = rest.tells;
      shows = ap (λ (l : List Record). l ++ (rest.here_told ++ shown_in old.epoch rest.later)) (no_line old.epoch old.epoch refl)
          ∙ rest.shows;
    }
