-- Laws above the stream: what a reader may conclude from a line, and from none. This product's own rule.
use Rattle.std.specs.Prelude.{ℕ, ◌≡◌, ◌≢◌, true, false, [], ◌∷◌, ◌++◌, length}
use Rattle.nms_quote.specs.Roster.{Listing, sizes_of}
use Rattle.nms_quote.specs.Tape.{Tape}
use Rattle.nms_quote.specs.declared.change.Change.{Change}
use Rattle.nms_nbbo.specs.Market.{market_of}
use Rattle.nms_nbbo.specs.declared.market_kind.Market.{Market}
use Rattle.nms_stream.specs.Quoted.{are_alike, quoted_at}
use Rattle.nms_stream.specs.Stream.{line_between, line_record}

-- the market of a symbol after the changes of a tape
abbrev pub market_at : Listing → Tape → ℕ → Market
market_at roster tape sym = market_of (quoted_at (sizes_of roster) tape sym).bid (quoted_at (sizes_of roster) tape sym).offer

-- the lines that one more change adds of a symbol
pub record TellsOf (roster : Listing) (tape : Tape) (change : Change) (sym : ℕ) : Type 0 where
  pub alike : are_alike (quoted_at (sizes_of roster) tape sym) (quoted_at (sizes_of roster) (tape ++ change ∷ []) sym) ≡ true
      → line_between roster tape (tape ++ change ∷ []) sym ≡ []
  pub other : are_alike (quoted_at (sizes_of roster) tape sym) (quoted_at (sizes_of roster) (tape ++ change ∷ []) sym) ≡ false
      → line_between roster tape (tape ++ change ∷ []) sym
      ≡ line_record roster (length (tape ++ change ∷ [])) sym (quoted_at (sizes_of roster) (tape ++ change ∷ []) sym) ∷ []
  pub market : market_at roster (tape ++ change ∷ []) sym ≢ market_at roster tape sym
      → line_between roster tape (tape ++ change ∷ []) sym ≢ []
