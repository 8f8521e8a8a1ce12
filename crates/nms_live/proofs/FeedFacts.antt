-- How a feed's text comes from one record to the next.
use Rattle.std.proofs.Common.{◌≡◌, ◌++◌, ◌∷◌, List, [], Result, Ok, refl, ap, sym, ◌∙◌}
use mathlib.Core.List.{map-append}
use Rattle.nms_quote.specs.Roster.{Listing}
use Rattle.nms_quote.specs.declared.change.Change.{Change}
use Rattle.nms_quote.specs.declared.feed.Feed.{Feed}
use Rattle.nms_lines.specs.Layout.{Record}
use Rattle.nms_lines.specs.declared.line.Line.{Line}
use Rattle.nms_lines.specs.declared.line.Line.TheVariants as line
use Rattle.nms_lines.specs.declared.line_fault.LineFault.{LineFault}
use Rattle.nms_lines.specs.ChangeReading.{feed_reading}
use Rattle.nms_live.specs.Reading.{Says}

-- one record more, that says a change
pub says_more : (roster : Listing) (feed : Feed) (records : List Record) (fields : Record) (changes new : List Change) (change : Change)
    → feed_reading roster feed fields ≡ Ok (line.Change change) → new ≡ changes ++ change ∷ [] → Says roster feed records changes
    → Says roster feed (records ++ fields ∷ []) new
says_more roster feed records fields changes new change says is had = rw is (
    map-append (feed_reading roster feed) records (fields ∷ [])
    ∙ both had (ap (λ (r : Result Line LineFault). r ∷ []) says)
    ∙ sym (map-append (λ (c : Change). Ok (line.Change c)) changes (change ∷ [])))
  where
    both : {a b c d : List (Result Line LineFault)} → a ≡ b → c ≡ d → a ++ c ≡ b ++ d
    both e f = rw (e, f) refl
