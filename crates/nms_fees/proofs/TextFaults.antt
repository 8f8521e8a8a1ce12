-- A text is read as the fault of least number that holds of it, or as a setup if none does.
use Rattle.std.proofs.Common.{codes, ◌≡◌, ℕ, ◌+◌, ◌<◌, Bool, true, false, ◌||◌, List, [], ◌∷◌, ◌++◌, Option, Some, None, Result, Ok, Err}
use Rattle.std.proofs.Common.{refl, sym, ap, ◌∙◌, lit<}
use Rattle.std.specs.Prelude.{is_none, IsOk}
use Rattle.std.specs.Fmt.{decimal}
use Rattle.std.specs.List.{list_any}
use Rattle.std.specs.Option.{option_map_or}
use Rattle.std.proofs.lemmas.Fmt.{decimal_digit}
use Rattle.toml.specs.Data.{Members}
use Rattle.toml.specs.Parse.{parse_document}
use Rattle.nms_quote.specs.Roster.{Name}
use Rattle.nms_fees.specs.FaultTable.{document_has, tables_at, text_has}
use Rattle.nms_fees.specs.Faults.{code_of, number_of}
use Rattle.nms_fees.specs.Laws.{IsFaultless, IsLeastFault, ReadsLeastFault}
use Rattle.nms_fees.specs.Places.{document_fault}
use Rattle.nms_fees.specs.Settings.{Settings}
use Rattle.nms_fees.specs.Setup.{document_reading, settings_of, reading}
use Rattle.nms_fees.specs.declared.setup_fault.SetupFault.{SetupFault}
use Rattle.nms_fees.specs.declared.setup_fault.SetupFault.TheVariants as fault
use Rattle.nms_fees.proofs.Agreement.{Agrees, found_holds, least_found, none_holds, nothing_found, on, same_agrees}
use Rattle.nms_fees.proofs.FaultsFound.{document_agrees}

-- what is found in a text, from what its parser gives
abbrev found_in : Option Members → Option SetupFault
found_in parsed = option_map_or document_fault parsed (Some fault.NotToml)

abbrev holds_in : Option Members → SetupFault → Bool
holds_in parsed fault.NotToml = is_none parsed
holds_in parsed other = option_map_or (document_has other) parsed false

any_of_none : (tables : List Members) → list_any (λ _. false) tables ≡ false
any_of_none [] = refl
any_of_none (first ∷ tables) = any_of_none tables

is_document : (document : Members) → document_has fault.NotToml document ≡ false
is_document document = ap (λ b. b || list_any (λ _. false) (tables_at (codes "symbol") document))
    (any_of_none (tables_at (codes "participant") document)) ∙ any_of_none (tables_at (codes "symbol") document)

parsed_agrees : (parsed : Option Members) (f : SetupFault) → Agrees f (holds_in parsed f) (found_in parsed)
parsed_agrees None fault.NotToml = on fault.NotToml fault.NotToml true
parsed_agrees (Some document) fault.NotToml = same_agrees (is_document document) (document_agrees document fault.NotToml)
parsed_agrees None f = on f fault.NotToml true
parsed_agrees (Some document) f = document_agrees document f

text_agrees : (text : Name) (f : SetupFault) → Agrees f (text_has text f) (found_in (parse_document text))
text_agrees text fault.NotToml = parsed_agrees (parse_document text) fault.NotToml
text_agrees text f = parsed_agrees (parse_document text) f

-- the fault that is answered, if one is
abbrev told : Result Settings SetupFault → Option SetupFault
told (Ok settings) = None
told (Err f) = Some f

reading_told : (text : Name) → told (reading text) ≡ found_in (parse_document text)
reading_told text = of_parsed (parse_document text)
  where
    of_found : (settings : Settings) (found : Option SetupFault) → told (option_map_or (λ f. Err f) found (Ok settings)) ≡ found
    of_found settings None = refl
    of_found settings (Some f) = refl

    of_parsed : (parsed : Option Members) → told (option_map_or document_reading parsed (Err fault.NotToml)) ≡ found_in parsed
    of_parsed None = refl
    of_parsed (Some document) = of_found (settings_of document) (document_fault document)

refused_as : (r : Result Settings SetupFault) (f : SetupFault) → told r ≡ Some f → r ≡ Err f
refused_as (Ok settings) f e = absurd (cc)
refused_as (Err g) f e = cc

none_told : (r : Result Settings SetupFault) → IsOk r → told r ≡ None
none_told (Ok settings) h = refl
none_told (Err f) h = absurd (cc)

is_ok : (r : Result Settings SetupFault) → told r ≡ None → IsOk r
is_ok (Ok settings) e = refl
is_ok (Err f) e = absurd (cc)

least_fault : (text : Name) (f : SetupFault) → reading text ≡ Err f → IsLeastFault text f
least_fault text f e =
    let least = found_holds (text_has text) (found_in (parse_document text)) (text_agrees text) f (sym (reading_told text) ∙ ap told e) in
    record { holds = least.0; least = least.1 }

fault_read : (text : Name) (f : SetupFault) → IsLeastFault text f → reading text ≡ Err f
fault_read text f least =
    refused_as (reading text) f (reading_told text
    ∙ least_found (text_has text) (found_in (parse_document text)) (text_agrees text) f least.holds least.least)

faultless : (text : Name) → IsOk (reading text) → IsFaultless text
faultless text ok f =
    none_holds (text_has text) (found_in (parse_document text)) (text_agrees text) f (sym (reading_told text) ∙ none_told (reading text) ok)

setup_read : (text : Name) → IsFaultless text → IsOk (reading text)
setup_read text none = is_ok (reading text) (reading_told text
    ∙ nothing_found (text_has text) (found_in (parse_document text)) (text_agrees text) none)

-- ---- the codes

one_digit : (n : ℕ) → n < 10 → 67 ∷ (48 + n) ∷ [] ≡ codes "C" ++ decimal n
one_digit n small = ap (λ ds. 67 ∷ ds) (sym (decimal_digit n small))

coded : (f : SetupFault) → code_of f ≡ codes "C" ++ decimal (number_of f)
coded fault.NotToml = one_digit 1 (lit< tt)
coded fault.Missing = one_digit 2 (lit< tt)
coded fault.UnknownKey = one_digit 3 (lit< tt)
coded fault.BadName = one_digit 4 (lit< tt)
coded fault.WrongType = one_digit 5 (lit< tt)
coded fault.OutOfRange = one_digit 6 (lit< tt)
coded fault.OverCap = one_digit 7 (lit< tt)
coded fault.TooMany = one_digit 8 (lit< tt)
coded fault.NoMemory = one_digit 9 (lit< tt)

pub reads_least_fault : ReadsLeastFault
reads_least_fault = record {
  refused = λ text f. (least_fault text f, fault_read text f);
  accepted = λ text. (faultless text, setup_read text);
  coded = coded;
}
