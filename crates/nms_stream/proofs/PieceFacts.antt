-- A text in pieces, from one to the next, and to its end.
use Rattle.std.proofs.Common.{ℕ, zero, suc, ◌+◌, ◌-◌, ◌≤◌, ◌≡◌, ◌++◌, ◌∷◌, List, [], length, Option, refl, sym, ap, subst, ◌∙◌}
use Rattle.std.proofs.Common.{append_assoc, arith}
use Rattle.std.specs.List.{flat_map, range_with_len}
use Rattle.std.specs.Io.KnownBytes.{Appends, append_known}
use Rattle.std.specs.Prelude.{Err, IfErr, Ok, OnErr, Result, ⊤, true}
use Rattle.std.proofs.lemmas.List.{append-nil}
use Rattle.csv.proofs.WriteFacts.{appends-more}
use Rattle.nms_quote.specs.Roster.{Listing}
use Rattle.nms_quote.specs.Tape.{Tape, version}
use Rattle.nms_quote.specs.declared.change.Change.{Change}
use Rattle.nms_fees.specs.Settings.{Settings}
use Rattle.nms_files.specs.ChangeFile.{IsFileTape}
use Rattle.nms_lines.specs.Layout.{Record}
use Rattle.nms_lines.specs.Text.{record_text, text_of}
use Rattle.nms_lines.specs.Written.{AppendsPart, WritesPart}
use Rattle.nms_lines.proofs.Offered.{appended, part_more}
use Rattle.nms_text.proofs.Offered.{appends-none}
use Rattle.nms_stream.specs.Pieces.{Sends}
use Rattle.nms_stream.specs.Stream.{header, lines_behind, lines_between, stream_text}
use Rattle.nms_stream.specs.StreamFile.{StreamsFile, is_begun}
use Rattle.nms_stream.specs.declared.stream_fault.StreamFault.{StreamFault}
use Rattle.nms_stream.proofs.ListFacts.{texts_more}

-- nothing was sent, and all that came waits
pub all_waits : (known : Option (List ℕ)) (waited came waits : List ℕ) → waits ≡ waited ++ came → Sends known known waited came waits
all_waits known waited came waits is = record { sent = []; written = appends-none known; all = sym is }

-- all was sent
pub all_sent : (old new : Option (List ℕ)) (waited came filled waits : List ℕ) → filled ≡ waited ++ came
    → Appends old new filled → waits ≡ []
    → Sends old new waited came waits
all_sent old new waited came filled waits is written none = record {
  sent = filled;
  written = written;
  all = sym is ∙ sym (ap (λ (t : List ℕ). filled ++ t) none ∙ append-nil filled);
}

-- one piece after another
pub sends_more : (old now new : Option (List ℕ)) (waited came between more waits : List ℕ) → Sends old now waited came between
    → Sends now new between more waits → Sends old new waited (came ++ more) waits
sends_more old now new waited came between more waits first next = record {
  sent = first.sent ++ next.sent;
  written = appends-more old now new first.sent next.sent first.written next.written;
  all = sym (append_assoc waited came more) ∙ ap (λ (t : List ℕ). t ++ more) first.all ∙ append_assoc first.sent between more
      ∙ ap (λ (t : List ℕ). first.sent ++ t) next.all ∙ sym (append_assoc first.sent next.sent waits);
}

-- pieces, then a prefix of what waits and comes
pub part_behind : (old now new : Option (List ℕ)) (waited came between more : List ℕ) → Sends old now waited came between
    → AppendsPart now new (between ++ more) → AppendsPart old new (waited ++ (came ++ more))
part_behind old now new waited came between more first cut =
    subst (AppendsPart old new)
    (sym (sym (append_assoc waited came more) ∙ ap (λ (t : List ℕ). t ++ more) first.all ∙ append_assoc first.sent between more))
    (part_more old now new first.sent (between ++ more) first.written cut)

-- a prefix of a text is one of what the text begins
pub part_of_longer : (old new : Option (List ℕ)) (text more : List ℕ) → AppendsPart old new text → AppendsPart old new (text ++ more)
part_of_longer old new text more cut = record {
  part = cut.part;
  rest = cut.rest ++ more;
  split = ap (λ (t : List ℕ). t ++ more) cut.split ∙ append_assoc cut.part cut.rest more;
  written = cut.written;
}

-- nothing was written of it
pub nothing_sent : (known : Option (List ℕ)) (text : List ℕ) → AppendsPart known known text
nothing_sent known text = record { part = []; rest = text; split = refl; written = appends-none known }

-- pieces, and then all that waits
pub last_sent : (old now new : Option (List ℕ)) (came waits : List ℕ) → Sends old now [] came waits → Appends now new waits
    → Appends old new came
last_sent old now new came waits first last =
    subst (Appends old new) (sym first.all) (appends-more old now new first.sent waits first.written last)

-- a prefix of the stream of a file
pub file_cut : (result : Result ⊤ StreamFault) (settings : Settings) (bytes : Option (List ℕ)) (asked : Option ℕ)
    (old new : Option (List ℕ)) (tape : Tape) (text : List ℕ) → IsFileTape settings bytes tape
    → text ≡ stream_text settings.roster asked tape → OnErr result (AppendsPart old new text)
    → IfErr result (λ fault. is_begun fault ≡ true → WritesPart (StreamsFile settings bytes asked old) old new)
file_cut (Ok done) settings bytes asked old new tape text file is cut = tt
file_cut (Err fault) settings bytes asked old new tape text file is cut = λ begun.
    let whole = stream_text settings.roster asked tape in
    record {
      text = whole;
      whole = append_known old whole;
      leaves = record { tape = tape; file = file; written = appended old whole };
      meant = appended old whole;
      cut = subst (AppendsPart old new) is cut;
    }

-- what holds anyway holds at a failure
pub anyway_failed : {A E P : Type 0} (result : Result A E) → P → OnErr result P
anyway_failed (Ok x) holds = tt
anyway_failed (Err e) holds = holds

-- the header and the lines of n versions
abbrev pub told_to : Listing → Option ℕ → Tape → ℕ → List ℕ
told_to roster asked tape count = text_of (header ∷ flat_map (lines_behind roster asked tape) (range_with_len 0 count))

-- those of one version more
told_more : (roster : Listing) (asked : Option ℕ) (tape : Tape) (count : ℕ)
    → told_to roster asked tape (count + 1) ≡ told_to roster asked tape count ++ text_of (lines_behind roster asked tape count)
told_more roster asked tape count =
    let f : ℕ → List Record = lines_behind roster asked tape in
    ap (λ (t : List ℕ). record_text header ++ t) (texts_more f count)
    ∙ sym (append_assoc (record_text header) (text_of (flat_map f (range_with_len 0 count))) (text_of (f count)))

-- as above, if the next change is known
pub told_on : (roster : Listing) (asked : Option ℕ) (tape : Tape) (count : ℕ) (change : Change)
    → version (count + 1) tape ≡ version count tape ++ change ∷ []
    → told_to roster asked tape count ++ text_of (lines_between roster asked (version count tape) (version count tape ++ change ∷ []))
    ≡ told_to roster asked tape (count + 1)
told_on roster asked tape count change next =
    ap (λ (now : Tape). told_to roster asked tape count ++ text_of (lines_between roster asked (version count tape) now)) (sym next)
    ∙ sym (told_more roster asked tape count)

-- the text of more versions begins with the text of these
front : (roster : Listing) (asked : Option ℕ) (tape : Tape) (count more : ℕ)
    → (rest : List ℕ) × (told_to roster asked tape (count + more) ≡ told_to roster asked tape count ++ rest)
front roster asked tape count zero =
    ([], ap (told_to roster asked tape) (omega arith) ∙ sym (append-nil (told_to roster asked tape count)))
front roster asked tape count (suc more) =
    let (rest, begins) = front roster asked tape count more in
    let last : List ℕ = text_of (lines_behind roster asked tape (count + more)) in (
      rest ++ last,
      ap (told_to roster asked tape) (omega arith) ∙ told_more roster asked tape (count + more) ∙ ap (λ (t : List ℕ). t ++ last) begins
          ∙ append_assoc (told_to roster asked tape count) rest last,
    )

-- a prefix of it is one of the complete stream
pub part_of_stream : (old new : Option (List ℕ)) (roster : Listing) (asked : Option ℕ) (tape : Tape) (count : ℕ) → count ≤ length tape
    → AppendsPart old new (told_to roster asked tape count) → AppendsPart old new (stream_text roster asked tape)
unfolding stream_text
part_of_stream old new roster asked tape count within cut =
    let (rest, begins) = front roster asked tape count (length tape - count) in
    let all : count + (length tape - count) ≡ length tape = omega (arith, within) in
    subst (AppendsPart old new) (sym begins ∙ ap (told_to roster asked tape) all)
    (part_of_longer old new (told_to roster asked tape count) rest cut)

-- the text of all versions is the stream
pub told_all : (roster : Listing) (asked : Option ℕ) (tape : Tape) (count : ℕ) → count ≤ length tape → length tape ≤ count
    → told_to roster asked tape count ≡ stream_text roster asked tape
unfolding stream_text
told_all roster asked tape count within end = ap (told_to roster asked tape) (omega (arith, within, end))

-- pieces, then a prefix of what waits
pub last_part : (old now new : Option (List ℕ)) (came waits : List ℕ) → Sends old now [] came waits → AppendsPart now new waits
    → AppendsPart old new came
last_part old now new came waits first cut =
    subst (AppendsPart old new) (sym first.all) (part_more old now new first.sent waits first.written cut)
