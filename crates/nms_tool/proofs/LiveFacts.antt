-- A live run that was made, and its written result, all of it or a part.
use Rattle.std.proofs.Common.{ℕ, ◌≡◌, List, length, refl, subst}
use Rattle.std.specs.Prelude.{◌≢◌, Option, Result, Ok, Err, IfErr, IfOk}
use Rattle.std.specs.Io.KnownBytes.{Appends, append_known}
use Rattle.nms_quote.specs.declared.desk_order.DeskOrder.{DeskOrder}
use Rattle.nms_fees.specs.Settings.{Settings}
use Rattle.nms_lines.specs.Text.{text_of}
use Rattle.nms_lines.specs.Written.{AppendsPart}
use Rattle.nms_lines.proofs.Offered.{appended}
use Rattle.nms_live.specs.Living.{IsLive}
use Rattle.nms_live.specs.declared.live.Live.{Live}
use Rattle.nms_text.specs.LiveText.{live_records}
use Rattle.nms_text.specs.declared.text_fault.TextFault.{TextFault}
use Rattle.nms_text.specs.declared.text_fault.TextFault.TheVariants as text_fault
use Rattle.nms_command.specs.LiveFiles.{AreOrdersOfSome}
use Rattle.nms_command.specs.declared.ending.Ending.{Ending}
use Rattle.nms_command.specs.declared.ending.Ending.TheVariants as ending
use Rattle.nms_command.proofs.Offered.{writing_more}
use Rattle.nms_tool.specs.Failed.{StopsRun}
use Rattle.nms_tool.specs.Served.{Runs, WritesRun}
use Rattle.nms_tool.specs.declared.tool_fault.ToolFault.{ToolFault}
use Rattle.nms_tool.specs.declared.tool_fault.ToolFault.TheVariants as tool

-- a run that was written was made
written_run : (settings : Settings) (texts : List (List ℕ)) (orders : List DeskOrder) (live : Live) (old new : Option (List ℕ))
    → length texts ≡ settings.feeds → AreOrdersOfSome settings orders → IsLive settings texts orders live
    → WritesRun settings live old new → Runs settings old new
written_run settings texts orders live old new feeds ordered came written = record {
  texts = texts;
  file = ordered.0;
  orders = orders;
  live = live;
  feeds = feeds;
  ordered = ordered.1;
  came = came;
  written = written;
}

pub ran : {X : Type 0} (r : Result Ending X) (settings : Settings) (texts : List (List ℕ)) (orders : List DeskOrder)
    (live : Live) (old new : Option (List ℕ))
    → length texts ≡ settings.feeds → AreOrdersOfSome settings orders → IsLive settings texts orders live
    → IfOk r (λ ends. (ends ≡ ending.Done) × WritesRun settings live old new)
    → IfOk r (λ ends. (ends ≡ ending.Done) × Runs settings old new)
ran (Ok ends) settings texts orders live old new feeds ordered came told =
    (told.0, written_run settings texts orders live old new feeds ordered came told.1)
ran (Err why) settings texts orders live old new feeds ordered came told = tt

-- a result that was not written, or in part
pub result_stopped : (why : TextFault) (settings : Settings) (live : Live) (text : List ℕ) (old new : Option (List ℕ))
    → text ≡ text_of (live_records settings.roster (length live.tape.items) live.closing.items)
    → (why ≡ text_fault.WriteFault → AppendsPart old new text) → (why ≢ text_fault.WriteFault → new ≡ old)
    → StopsRun (WritesRun settings live old) old new (tool.LiveText why)
result_stopped text_fault.NoMemory settings live text old new is part kept = kept (λ is. absurd (cc is))
result_stopped text_fault.WriteFault settings live text old new is part kept = record {
  text = text;
  whole = append_known old text;
  leaves = subst (Appends old (append_known old text)) is (appended old text);
  meant = appended old text;
  cut = part refl;
}

-- a prefix of one result is one of a result that follows from it
pub stops_more : (why : ToolFault) (P Q : Option (List ℕ) → Type 0) (old new : Option (List ℕ))
    → ((whole : Option (List ℕ)) → P whole → Q whole) → StopsRun P old new why → StopsRun Q old new why
stops_more (tool.LiveText text_fault.WriteFault) P Q old new more stops = writing_more P Q old new more stops
stops_more (tool.LiveText text_fault.NoMemory) P Q old new more stops = stops
stops_more (tool.Live own) P Q old new more stops = stops
stops_more (tool.Command own) P Q old new more stops = stops

pub run_stopped : {X : Type 0} (r : Result X ToolFault) (settings : Settings) (texts : List (List ℕ)) (orders : List DeskOrder)
    (live : Live) (old new : Option (List ℕ))
    → length texts ≡ settings.feeds → AreOrdersOfSome settings orders → IsLive settings texts orders live
    → IfErr r (StopsRun (WritesRun settings live old) old new) → IfErr r (StopsRun (Runs settings old) old new)
run_stopped (Ok x) settings texts orders live old new feeds ordered came stops = tt
run_stopped (Err why) settings texts orders live old new feeds ordered came stops =
    stops_more why (WritesRun settings live old) (Runs settings old) old new
    (λ whole written. written_run settings texts orders live old whole feeds ordered came written) stops
