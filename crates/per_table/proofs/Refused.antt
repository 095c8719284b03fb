-- Why lines have no answer.
use Rattle.std.proofs.Common.{◌≡◌, ◌⊎◌, inl, inr, refl, sym, ap, ◌∙◌, subst, ℕ, List, Result, Ok}
use Rattle.hex.specs.Hex.{decode_of}
use Rattle.rasn_dynamic.specs.declared.types.Types.{Types}
use Rattle.per_core.specs.Rows.{Codec}
use Rattle.per_messages.specs.declared.error.MessageError.{MessageError}
use Rattle.per_messages.specs.declared.error.MessageError.TheVariants as Of
use Rattle.per_table.specs.Answers.{AreDigitsRefused, IsRefusedMessage, IsRefusedText, IsUnanswered}
use Rattle.per_table.specs.Refusals.{message_refusal}
use Rattle.per_table.specs.Requests.{IsRequestOf}
use Rattle.per_table.specs.declared.refusal.Refusal.{Refusal}
use Rattle.per_table.specs.declared.refusal.Refusal.TheVariants.{WrongRequest, UnknownType, BadHexadecimal, Message, OutOfMemory}
use Rattle.per_table.specs.declared.task.Task.{Task}
use Rattle.per_table.specs.declared.task.Task.TheVariants.{Recode, Show, Make}

-- a message's error is told as that, or memory ran out
told : (e : MessageError) → (message_refusal e ≡ Message e) ⊎ (message_refusal e ≡ OutOfMemory)
told (Of.Decode kind) = inl refl
told (Of.Encode kind) = inl refl
told Of.NoJson = inl refl
told Of.OtherType = inl refl
told (Of.FromJson e) = inl refl
told Of.OutOfMemory = inr refl

of_message : (so : Refusal → Type 0) (e : MessageError) (r : Refusal) → so (Message e) → r ≡ message_refusal e
    → (message_refusal e ≡ Message e) ⊎ (message_refusal e ≡ OutOfMemory) → so r ⊎ (r ≡ OutOfMemory)
of_message so e r h q (inl t) = inl (subst so (sym (q ∙ t)) h)
of_message so e r h q (inr t) = inr (q ∙ t)

pub refused_text : (refuses : MessageError → Type 0) (e : MessageError) (r : Refusal) → refuses e ⊎ (e ≡ Of.OutOfMemory) → r ≡ message_refusal e
    → IsRefusedMessage refuses r ⊎ (r ≡ OutOfMemory)
refused_text refuses e r (inl h) q = of_message (IsRefusedMessage refuses) e r h q (told e)
refused_text refuses e r (inr m) q = inr (q ∙ ap message_refusal m)

pub refused_digits : (refuses : List ℕ → MessageError → Type 0) (digits octets : List ℕ) (e : MessageError) (r : Refusal) → decode_of digits ≡ Ok octets
    → refuses octets e ⊎ (e ≡ Of.OutOfMemory) → r ≡ message_refusal e → AreDigitsRefused refuses digits r ⊎ (r ≡ OutOfMemory)
refused_digits refuses digits octets e r d (inl h) q =
    of_message (AreDigitsRefused refuses digits) e r (record { octets = octets; hexadecimal = d; are = h }) q (told e)
refused_digits refuses digits octets e r d (inr m) q = inr (q ∙ ap message_refusal m)

-- the text of a request is refused, so the line has no answer
pub unanswered : (task : Task) (types : Types) (codec : Codec) (place : ℕ) (line text : List ℕ) (r : Refusal) → IsRequestOf types line codec place text
    → IsRefusedText task types codec place text r ⊎ (r ≡ OutOfMemory) → IsUnanswered task types line r ⊎ (r ≡ OutOfMemory)
unanswered task types codec place line text r is (inr m) = inr m
unanswered Recode types codec place line text WrongRequest is (inl h) = absurd h.are
unanswered Show types codec place line text WrongRequest is (inl h) = absurd h.are
unanswered Make types codec place line text WrongRequest is (inl h) = absurd h
unanswered Recode types codec place line text UnknownType is (inl h) = absurd h.are
unanswered Show types codec place line text UnknownType is (inl h) = absurd h.are
unanswered Make types codec place line text UnknownType is (inl h) = absurd h
unanswered task types codec place line text BadHexadecimal is (inl h) =
    inl (record { codec = codec; place = place; text = text; is_request = is; refused = h })
unanswered task types codec place line text (Message e) is (inl h) =
    inl (record { codec = codec; place = place; text = text; is_request = is; refused = h })
unanswered task types codec place line text OutOfMemory is (inl h) = inr refl
