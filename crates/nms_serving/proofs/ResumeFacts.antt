-- What the end of a process leaves of an epoch is read back: its lengths, its changes, and the board of those published.
use Rattle.std.proofs.Common.{ℕ, ◌≡◌, ◌+◌, ◌-◌, ◌^◌, ◌<◌, ◌≤◌, ◌==◌, Bool, true, false, List, All, [], ◌∷◌, ◌++◌, Option, Some, None}
use Rattle.std.proofs.Common.{refl, sym, ap, subst, ◌∙◌, arith, append_assoc, drop, fold, length, length-append, map, take}
use Rattle.std.proofs.lemmas.List.Elements.{All-head, All-tail}
use Rattle.std.proofs.lemmas.List.{length-map}
use Rattle.std.proofs.Math.Seq.{drop-append_seam, take-append_seam}
use Rattle.std.specs.Prelude.{position, Result, Ok}
use Rattle.std.specs.Fmt.{decimal}
use Rattle.nms_units.specs.Digits.{number_in}
use Rattle.nms_quote.specs.Roster.{Listing, sizes_of}
use Rattle.nms_quote.specs.Tape.{Tape}
use Rattle.nms_quote.specs.declared.TheConstants.{MOST_CHANGES}
use Rattle.nms_quote.specs.declared.change.Change.{Change}
use Rattle.nms_quote.specs.declared.change.Change.TheVariants as change
use Rattle.nms_fees.specs.Settings.{Settings}
use Rattle.nms_lines.specs.ChangeReading.{change_reading}
use Rattle.nms_lines.specs.Layout.{Record}
use Rattle.nms_lines.specs.Records.{AreAllRecords}
use Rattle.nms_lines.specs.TextLaws.{HasOneList}
use Rattle.nms_lines.specs.declared.line.Reading.TheVariants as source
use Rattle.nms_lines.specs.declared.line_fault.LineFault.{LineFault}
use Rattle.nms_lines.proofs.Offered.{plain_decimal}
use Rattle.nms_change_text.specs.ChangeText.{change_record, changes_text}
use Rattle.nms_change_text.specs.ReadBack.{ChangesReadAsWritten, FitsRecord, MayBring, ReadsBack}
use Rattle.nms_files.specs.ChangeFile.{IsFileFault, IsFileTape, IsRefusedAfter, IsRefusedBehind, IsTapeOf, is_of_line}
use Rattle.nms_files.specs.LineFile.{IsFirstRefused}
use Rattle.nms_files.specs.declared.changes_fault.ChangesFault.{ChangesFault}
use Rattle.nms_answers.specs.ServedEpoch.{RiseTo}
use Rattle.nms_board.specs.Cells.{Board, after, opening}
use Rattle.nms_serving.specs.Resuming.{board_of, lengths_text}
use Rattle.nms_serving.specs.declared.resume_fault.ResumeFault.{ResumeFault}
use Rattle.nms_serving.specs.declared.resume_fault.ResumeFault.TheVariants as fault
use Rattle.nms_serving.specs.declared.resuming.Listed.{Listed}
use Rattle.nms_serving.specs.declared.resuming.TheConstants.{MOST_DIGITS}
use Rattle.nms_serving.proofs.ChangeLines.{unbroken}
use Rattle.nms_serving.proofs.LineFacts.{IsUnbroken, ends_line, ends_none}

-- ---- lengths

-- how digits are read
abbrev pub DigitsAreRead : Type 0
DigitsAreRead = (most n : ℕ) → 0 < most → n < 10 ^ most → n < 10 ^ 64 → number_in most (decimal n) ≡ Some n

-- the lengths that are still to be read after one of them
pub record AreStill (published : ℕ) (torn : List ℕ) (last : ℕ) (rest : List ℕ) : Type 0 where
  pub lengths : List ℕ
  pub rising : RiseTo last published lengths
  pub lines : rest ≡ lengths_text lengths ++ torn

-- the next of them is read, and those after it are to be read
pub record IsNext (published : ℕ) (torn : List ℕ) (last end : ℕ) (rest : List ℕ) : Type 0 where
  pub next : ℕ
  pub number : number_in MOST_DIGITS (take end rest) ≡ Some next
  pub more : last < next
  pub still : AreStill published torn next (drop (end + 1) rest)

rise_within : (low whole : ℕ) (lengths : List ℕ) → RiseTo low whole lengths → low ≤ whole
rise_within low whole [] rise = omega (arith, rise)
rise_within low whole (next ∷ lengths) rise = omega (arith, rise.0, rise_within next whole lengths rise.1)

pub decimal_unbroken : (n : ℕ) → IsUnbroken (decimal n)
decimal_unbroken n = unbroken (decimal n) (plain_decimal n).none

one_line : (n : ℕ) (lengths : List ℕ) (torn : List ℕ)
    → lengths_text (n ∷ lengths) ++ torn ≡ decimal n ++ 10 ∷ (lengths_text lengths ++ torn)
one_line n lengths torn = append_assoc (decimal n ++ 10 ∷ []) (lengths_text lengths) torn
    ∙ append_assoc (decimal n) (10 ∷ []) (lengths_text lengths ++ torn)

pub next_length : DigitsAreRead → (published last end : ℕ) (torn rest : List ℕ) → published ≤ MOST_CHANGES → IsUnbroken torn
    → AreStill published torn last rest → position (λ byte. byte == 10) rest ≡ Some end → IsNext published torn last end rest
next_length digits published last end torn rest possible part still is = go still.lengths still.rising still.lines
  where
    go : (lengths : List ℕ) → RiseTo last published lengths → rest ≡ lengths_text lengths ++ torn → IsNext published torn last end rest
    go [] rising lines =
        let none : None ≡ Some end = sym (ends_none torn part) ∙ ap (position (λ (byte : ℕ). byte == 10)) (sym lines) ∙ is in
        absurd (cc)
    go (n ∷ lengths) rising lines =
        let behind : List ℕ = lengths_text lengths ++ torn in
        let whole : rest ≡ decimal n ++ 10 ∷ behind = lines ∙ one_line n lengths torn in
        let place : Some (length (decimal n)) ≡ Some end =
        sym (ends_line (decimal n) behind (decimal_unbroken n)) ∙ ap (position (λ (byte : ℕ). byte == 10)) (sym whole) ∙ is in
        let long : length (decimal n) ≡ end = cc in
        let small : n ≤ published = rise_within n published lengths rising.1 in
        let first : take end rest ≡ decimal n =
        ap (λ (k : ℕ). take k rest) (sym long) ∙ ap (take (length (decimal n))) whole ∙ take-append_seam (decimal n) (10 ∷ behind) in
        let line : List ℕ = decimal n ++ 10 ∷ [] in
        let lined : rest ≡ line ++ behind = whole ∙ sym (append_assoc (decimal n) (10 ∷ []) behind) in
        let longer : length line ≡ end + 1 = omega (arith, long, length-append (decimal n) (10 ∷ [])) in
        let later : drop (end + 1) rest ≡ behind =
        ap (λ (k : ℕ). drop k rest) (sym longer) ∙ ap (drop (length line)) lined ∙ drop-append_seam line behind in
        record {
          next = n;
          number = ap (number_in MOST_DIGITS) first
              ∙ digits MOST_DIGITS n (omega arith) (omega (arith, small, possible)) (omega (arith, small, possible));
          more = rising.0;
          still = record { lengths = lengths; rising = rising.1; lines = later };
        }

pub no_next : (published last : ℕ) (torn rest : List ℕ) → AreStill published torn last rest
    → position (λ byte. byte == 10) rest ≡ None → (last ≡ published) × (rest ≡ torn)
no_next published last torn rest still is = go still.lengths still.rising still.lines
  where
    go : (lengths : List ℕ) → RiseTo last published lengths → rest ≡ lengths_text lengths ++ torn → (last ≡ published) × (rest ≡ torn)
    go [] rising lines = (rising, lines)
    go (n ∷ lengths) rising lines =
        let behind : List ℕ = lengths_text lengths ++ torn in
        let some : Some (length (decimal n)) ≡ None =
        sym (ends_line (decimal n) behind (decimal_unbroken n))
        ∙ ap (position (λ (byte : ℕ). byte == 10)) (sym (lines ∙ one_line n lengths torn)) ∙ is in
        absurd (cc)

pub still_moved : (published last other : ℕ) (torn rest later : List ℕ) → last ≡ other → rest ≡ later
    → AreStill published torn other later → AreStill published torn last rest
still_moved published last other torn rest later same moved still = rw (same, moved) still

abbrev pub listed_at : ℕ → ℕ → Option Listed
listed_at last end = Some (record { length = last; end = end })

-- so they are found
pub all_listed : (published last : ℕ) (lengths torn listed rest : List ℕ) → last ≡ published → rest ≡ torn
    → listed ≡ lengths_text lengths ++ torn
    → listed_at last (length listed - length rest) ≡ listed_at published (length (lengths_text lengths))
all_listed published last lengths torn listed rest same left whole =
    let end : length listed - length rest ≡ length (lengths_text lengths) =
    omega (arith, ap length left, ap length whole, length-append (lengths_text lengths) torn) in
    λ i. listed_at (same i) (end i)

-- ---- changes

read_each : (roster : Listing) (tape : List Change) → All (ReadsBack roster) tape
    → map (change_reading roster) (map (change_record roster) tape) ≡ map (λ said. Ok said) tape
read_each roster [] back = refl
read_each roster (said ∷ tape) back =
    let here = All-head (ReadsBack roster) said tape back source.Changes (brought said) in
    let rest = read_each roster tape (All-tail (ReadsBack roster) said tape back) in
    rw (here, rest) refl
  where
    brought : (said : Change) → MayBring roster source.Changes said
    brought (change.Quote part sym state bid offer) = (refl, refl)
    brought (change.State part sym state) = (refl, refl)
    brought (change.Withdraw part) = (refl, refl)
    brought (change.Lot sym lot) = (refl, refl)

abbrev taken : Change → Result Change LineFault
taken said = Ok said

same_said : (some others : List Change) → map taken some ≡ map taken others → some ≡ others
same_said [] [] same = refl
same_said [] (other ∷ others) same = absurd (cc)
same_said (one ∷ some) [] same = absurd (cc)
same_said (one ∷ some) (other ∷ others) same =
    let first : taken one ≡ taken other = cc in
    let rest : map taken some ≡ map taken others = cc in
    let head : one ≡ other = cc in
    let tail : some ≡ others = same_said some others rest in
    cc

-- a record of a text that says a tape says one of its changes
line_said : (reading : Record → Result Change LineFault) (before : List Record) (line : Record) (behind : List Record) (tape : List Change)
    → map reading (before ++ line ∷ behind) ≡ map (λ said. Ok said) tape
    → (said : Change) × (reading line ≡ Ok said) × (length before < length tape)
line_said reading [] line behind [] same = absurd (cc)
line_said reading [] line behind (said ∷ tape) same = (said, cc, omega arith)
line_said reading (one ∷ before) line behind [] same = absurd (cc)
line_said reading (one ∷ before) line behind (said ∷ tape) same =
    let rest : map reading (before ++ line ∷ behind) ≡ map (λ more. Ok more) tape = cc in
    let found = line_said reading before line behind tape rest in
    (found.0, found.1, omega (arith, found.2))

-- so none of them is refused
no_refusal : (settings : Settings) (tape : Tape) (records : List Record) (why : ChangesFault)
    → map (change_reading settings.roster) records ≡ map (λ said. Ok said) tape → length tape ≤ settings.tape_limit
    → IsFirstRefused (IsTapeOf settings) (λ taken line. IsRefusedBehind settings taken line why) records → ⊥
no_refusal settings tape records why said limit first =
    let found = line_said (change_reading settings.roster) first.before first.line first.behind tape
    (ap (map (change_reading settings.roster)) (sym first.parted) ∙ said) in
    let refused = subst (λ (r : Result Change LineFault). IsRefusedAfter settings (length first.items) r why) found.1 first.refused in
    let many : length first.before ≡ length first.items =
    sym (length-map first.before (change_reading settings.roster)) ∙ ap length first.taken.said ∙ length-map first.items (λ item. Ok item) in
    omega (arith, refused.1, found.2, limit, many)

-- the text of a tape, and what its records say
pub record IsTapeText (settings : Settings) (tape : Tape) (text : List ℕ) : Type 0 where
  pub records : List Record
  pub are : AreAllRecords (Some text) records
  pub said : map (change_reading settings.roster) records ≡ map (λ said. Ok said) tape
  pub one : HasOneList text
  pub limit : length tape ≤ settings.tape_limit

pub tape_text : (settings : Settings) (roster : Listing) (tape : Tape) (text : List ℕ) → ChangesReadAsWritten roster
    → roster ≡ settings.roster → ((bytes : List ℕ) → HasOneList bytes) → All (FitsRecord settings.roster) tape → length tape ≤ settings.tape_limit
    → text ≡ changes_text settings.roster tape → IsTapeText settings tape text
tape_text settings roster tape text law same one fits limit is =
    let read = subst (λ (listing : Listing). ChangesReadAsWritten listing) same law tape fits in
    record {
      records = map (change_record settings.roster) tape;
      are = subst (λ (bytes : List ℕ). AreAllRecords (Some bytes) (map (change_record settings.roster) tape)) (sym is) read.0;
      said = read_each settings.roster tape read.1;
      one = one text;
      limit = limit;
    }

same_records : (text : List ℕ) → HasOneList text → (some others : List Record) → AreAllRecords (Some text) some
    → AreAllRecords (Some text) others → some ≡ others
same_records text one some others first second = one.2 some first ∙ sym (one.2 others second)

-- it is read as that tape, and no record of it is refused
pub read_back : (settings : Settings) (tape others : Tape) (text : List ℕ) → IsTapeText settings tape text
    → IsFileTape settings (Some text) others → others ≡ tape
read_back settings tape others text is file =
    let same : file.0 ≡ is.records = same_records text is.one file.0 is.records file.1 is.are in
    same_said others tape (sym file.2.said ∙ ap (map (change_reading settings.roster)) same ∙ is.said)

pub never_refused : (settings : Settings) (tape : Tape) (text : List ℕ) (why : ChangesFault) → IsTapeText settings tape text
    → IsFileFault settings (Some text) why → is_of_line why ≡ true → ⊥
never_refused settings tape text why is refused of_line =
    let file = refused of_line in
    let same : file.0 ≡ is.records = same_records text is.one file.0 is.records file.1 is.are in
    no_refusal settings tape file.0 why (ap (map (change_reading settings.roster)) same ∙ is.said) is.limit file.2

pub only_memory : (settings : Settings) (tape : Tape) (text : List ℕ) (why : ChangesFault) (answer : ResumeFault)
    → IsTapeText settings tape text → IsFileFault settings (Some text) why → (is_of_line why ≡ false → answer ≡ fault.NoMemory)
    → answer ≡ fault.NoMemory
only_memory settings tape text why answer is refused memory = go (is_of_line why) refl
  where
    go : (b : Bool) → is_of_line why ≡ b → answer ≡ fault.NoMemory
    go true of_line = absurd (never_refused settings tape text why is refused of_line)
    go false other = memory other

-- the board that took what was read
pub board_taken : (settings : Settings) (roster : Listing) (empty board : Board) (first read tape : Tape)
    → board ≡ fold after empty first → empty ≡ opening (sizes_of roster) → roster ≡ settings.roster → first ≡ read → read ≡ tape
    → board ≡ board_of settings tape
board_taken settings roster empty board first read tape took none same are back =
    took ∙ ap (λ (b : Board). fold after b first) (none ∙ ap (λ (l : Listing). opening (sizes_of l)) same)
    ∙ ap (fold after (opening (sizes_of settings.roster))) (are ∙ back)
