-- The board of a version, and what is shown of it.
use Rattle.std.proofs.Common.{ℕ, ◌≡◌, ◌++◌, ◌∙◌, [], List, Option, None, Some, ap, fold, subst, take}
use Rattle.std.specs.Prelude.{IfSome}
use Rattle.nms_quote.specs.Roster.{Listing, Sizes, sizes_of}
use Rattle.nms_quote.specs.Tape.{Tape, version}
use Rattle.nms_board.specs.Cells.{Board, StandsFor, after, opening}
use Rattle.nms_board.specs.View.{view_of}
use Rattle.nms_fees.specs.Settings.{Settings}
use Rattle.nms_drawing.specs.Versions.{IsBoardOf, IsVersionBoard, Reports, ShowsVersion}

-- a board with nothing on it that took the first n changes of a tape is the board after them
pub made : (sizes : Sizes) (tape : Tape) (n : ℕ) (taken : Tape) (opened now : Board) → taken ≡ take n tape → opened ≡ opening sizes
    → StandsFor opened [] → now ≡ fold after opened taken → ((t : Tape) → StandsFor opened t → StandsFor now (t ++ taken))
    → now.sizes ≡ opened.sizes → IsBoardOf sizes (take n tape) now
made sizes tape n taken opened now front empty begins is stands same = record {
  same = is ∙ ap (λ (t : Tape). fold after opened t) front ∙ ap (λ (b : Board). fold after b (take n tape)) empty;
  stands = subst (StandsFor now) front (stands [] begins);
  of = same ∙ ap (λ (b : Board). b.sizes) empty;
}

-- what was reported of a board of a version is what the version shows
pub version_shown : (settings : Settings) (bytes times : Option (List ℕ)) (n sym_place : ℕ) (roster : Listing) (board : Board)
    (old new : Option (List ℕ)) → IsVersionBoard settings bytes times n board → roster ≡ settings.roster
    → ((tape : Tape) → StandsFor board tape → Reports roster (view_of (sizes_of roster) tape sym_place) old new)
    → ShowsVersion settings bytes times n sym_place old new
version_shown settings bytes times n sym_place roster board old new is own shown = record {
  tape = is.tape;
  has = is.has;
  reports = subst (λ (r : Listing). Reports r (view_of (sizes_of r) (version n is.tape) sym_place) old new) own
      (shown (version n is.tape) is.made.stands);
}

-- the same of a symbol, if one is asked for
pub symbol_shown : (settings : Settings) (bytes times : Option (List ℕ)) (n : ℕ) (roster : Listing) (board : Board)
    (old new : Option (List ℕ)) (asked : Option ℕ) → IsVersionBoard settings bytes times n board → roster ≡ settings.roster
    → IfSome asked (λ sym_place. (tape : Tape) → StandsFor board tape
    → Reports roster (view_of (sizes_of roster) tape sym_place) old new)
    → IfSome asked (λ sym_place. ShowsVersion settings bytes times n sym_place old new)
symbol_shown settings bytes times n roster board old new None is own shown = tt
symbol_shown settings bytes times n roster board old new (Some sym_place) is own shown =
    version_shown settings bytes times n sym_place roster board old new is own shown
