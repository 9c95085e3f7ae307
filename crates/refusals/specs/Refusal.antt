-- A refusal of the code, as a refusal of the rules.
use Rattle.std.specs.Prelude.{ℕ}
use Rattle.rules.specs.Refusal as rules
use Rattle.rules.specs.Script as script
use Rattle.refusals.specs.declared.Text.{Text}
use Rattle.refusals.specs.declared.Text.TheVariants.{First, Proof}
use Rattle.refusals.specs.declared.Place.{Place}
use Rattle.refusals.specs.declared.Judgement.{Judgement}
use Rattle.refusals.specs.declared.Judgement.TheVariants.{Classifier, «Type», Object, Spine}
use Rattle.refusals.specs.declared.Refusal.{Refusal}
use Rattle.refusals.specs.declared.Refusal.TheVariants.{TextTooLong, UnfitTable, NoToken, LongName, MisfitToken, TooDeep, UnknownName, WrongForm, WrongHead, HeadAtProduct, LamAtNoProduct, TooFew, TooMany, Unequal, NoResult, NoRoom, UnfitEntry, NameTaken, StoreFull, NoSuchConstant, ShortNumbers}

-- a text as the rules number it
abbrev pub text_number : Text → ℕ
text_number First = 0
text_number Proof = 1

-- a judgement of the rules, and its number
abbrev pub judged : Judgement → script.Judgement
judged Classifier = script.classifier_judgement
judged «Type» = script.type_judgement
judged Object = script.object_judgement
judged Spine = script.spine_judgement

abbrev pub judgement_number : Judgement → ℕ
judgement_number j = script.judgement_number (judged j)

-- a refusal of reading; one of checking, by its number; and one by its cause
abbrev pub misread : ℕ → Place → rules.Refusal
misread number p = rules.refusal number (text_number p.text) p.at 0

abbrev pub refused_at : ℕ → Place → Judgement → rules.Refusal
refused_at number p j = rules.refusal number (text_number p.text) p.at (judgement_number j)

abbrev pub caused : script.Cause → Place → Judgement → rules.Refusal
caused cause p j = refused_at (script.cause_number cause) p j

-- the refusal of the rules, by number, text, place and judgement
abbrev pub meaning : Refusal → rules.Refusal
meaning (TextTooLong text) = rules.refusal 11 (text_number text) 0 0
meaning UnfitTable = rules.refusal 12 0 0 0
meaning (NoToken p) = misread 13 p
meaning (LongName p) = misread 14 p
meaning (MisfitToken p) = misread 15 p
meaning (TooDeep p) = misread 16 p
meaning (UnknownName p) = misread 21 p
meaning (WrongForm p j) = caused script.wrong_form p j
meaning (WrongHead p j) = caused script.wrong_head p j
meaning (HeadAtProduct p) = caused script.head_at_product p Object
meaning (LamAtNoProduct p) = caused script.lam_at_no_product p Object
meaning (TooFew p) = caused script.too_few p Spine
meaning (TooMany p) = caused script.too_many p Spine
meaning (Unequal p) = caused script.unequal p Object
meaning (NoResult p) = caused script.no_result p Spine
meaning (NoRoom p j) = refused_at 39 p j
meaning UnfitEntry = rules.refusal 41 0 0 0
meaning (NameTaken at) = rules.refusal 42 0 at 0
meaning (StoreFull at) = rules.refusal 43 0 at 0
meaning NoSuchConstant = rules.refusal 51 0 0 0
meaning ShortNumbers = rules.refusal 52 0 0 0
