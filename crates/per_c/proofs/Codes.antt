-- Names of refusals are short, and what isn't recoded isn't put.
use Rattle.std.proofs.Common.{◌≡◌, refl, ℕ, ◌<◌, List, length, nat_lt, true, Result, Ok, Err}
use Rattle.std.specs.Prelude.{IfOk, IfErr}
use Rattle.std.proofs.lemmas.Bool.{ltb-true}
use Rattle.per_core.specs.ReadingNames.{name_of as decode_name}
use Rattle.per_core.specs.declared.decode_error.DecodeErrorKind.{DecodeErrorKind}
use Rattle.per_core.specs.declared.decode_error.DecodeErrorKind.TheVariants as Decoding
use Rattle.per_core.specs.WritingNames.{name_of as encode_name}
use Rattle.per_core.specs.declared.encode_error.EncodeErrorKind.{EncodeErrorKind}
use Rattle.per_core.specs.declared.encode_error.EncodeErrorKind.TheVariants as Encoding
use Rattle.per_c.specs.declared.refusal.Refusal.{Refusal}
use Rattle.per_c.specs.declared.refusal.Refusal.TheVariants.{OutOfMemory, UnknownOptions, UnknownType, NoRoom, Decode, Encode, Json}
use Rattle.per_c.specs.declared.refusal.Refusal.TheVariants.{AlreadyLoaded, BadSchema, FromJson, NoTypes, OtherType}
use Rattle.per_messages.specs.Errors.{from_json_name}
use Rattle.rasn_dynamic_jer.specs.declared.from_json_error.FromJsonError.{FromJsonError}
use Rattle.rasn_dynamic_jer.specs.declared.from_json_error.FromJsonError.TheVariants as Told
use Rattle.rasn_jer.specs.Names.{name_of as json_name}
use Rattle.rasn_jer.specs.declared.error.EncodeError.{EncodeError}
use Rattle.rasn_jer.specs.declared.error.EncodeError.TheVariants as Showing
use Rattle.per_c.specs.Answers.{IsAnswerPut, IsAnswerUnput, IsUnput, IsUnputBy, Puts}

decode_is_short : (k : DecodeErrorKind) → nat_lt (length (decode_name k)) 32 ≡ true
decode_is_short (Decoding.Incomplete missing) = refl
decode_is_short (Decoding.ParserFail cause) = refl
decode_is_short (Decoding.UnexpectedExtraData octets) = refl
decode_is_short Decoding.MissingTag = refl
decode_is_short Decoding.TypeNotExtensible = refl
decode_is_short Decoding.ExceedsMaxLength = refl
decode_is_short (Decoding.IntegerOverflow width) = refl
decode_is_short (Decoding.SizeConstraintNotSatisfied told) = refl
decode_is_short (Decoding.ValueConstraintNotSatisfied told) = refl
decode_is_short Decoding.PermittedAlphabet = refl
decode_is_short (Decoding.EnumerationIndexNotFound index added) = refl
decode_is_short (Decoding.ChoiceIndexNotFound index) = refl
decode_is_short Decoding.ChoiceIndexExceedsPlatformWidth = refl
decode_is_short (Decoding.RequiredExtensionNotPresent tag) = refl
decode_is_short Decoding.ExceedsMaxParseDepth = refl
decode_is_short Decoding.StringConversionFailed = refl
decode_is_short Decoding.InvalidDate = refl
decode_is_short Decoding.RealNotSupported = refl
decode_is_short Decoding.Below = refl
decode_is_short Decoding.UnexpectedEmptyInput = refl
decode_is_short Decoding.AlreadyFailed = refl
decode_is_short Decoding.OutOfMemory = refl

pub decode_short : (k : DecodeErrorKind) → length (decode_name k) < 32
decode_short k = ltb-true (length (decode_name k)) 32 (decode_is_short k)

encode_is_short : (k : EncodeErrorKind) → nat_lt (length (encode_name k)) 32 ≡ true
encode_is_short (Encoding.SizeConstraintNotSatisfied told) = refl
encode_is_short (Encoding.ValueConstraintNotSatisfied told) = refl
encode_is_short Encoding.AlphabetConstraintNotSatisfied = refl
encode_is_short Encoding.IntegerTypeConversionFailed = refl
encode_is_short Encoding.VariantNotInChoice = refl
encode_is_short Encoding.RealNotSupported = refl
encode_is_short Encoding.TooManyAdditions = refl
encode_is_short Encoding.Below = refl
encode_is_short Encoding.AlreadyFailed = refl
encode_is_short Encoding.OutOfTurn = refl
encode_is_short Encoding.WrongKind = refl
encode_is_short Encoding.OutOfMemory = refl

pub encode_short : (k : EncodeErrorKind) → length (encode_name k) < 32
encode_short k = ltb-true (length (encode_name k)) 32 (encode_is_short k)

json_is_short : (e : EncodeError) → nat_lt (length (json_name e)) 32 ≡ true
json_is_short Showing.OutOfMemory = refl
json_is_short Showing.NoJson = refl
json_is_short Showing.VariantNotInChoice = refl
json_is_short Showing.AlreadyFailed = refl
json_is_short Showing.OutOfTurn = refl

pub json_short : (e : EncodeError) → length (json_name e) < 32
json_short e = ltb-true (length (json_name e)) 32 (json_is_short e)

from_json_is_short : (e : FromJsonError) → nat_lt (length (from_json_name e)) 32 ≡ true
from_json_is_short Told.OutOfMemory = refl
from_json_is_short Told.NotJson = refl
from_json_is_short Told.DuplicateMember = refl
from_json_is_short Told.UnknownMember = refl
from_json_is_short Told.MissingMember = refl
from_json_is_short Told.UnknownItem = refl
from_json_is_short Told.UnknownAlternative = refl
from_json_is_short Told.WrongKind = refl
from_json_is_short Told.BadNumber = refl
from_json_is_short Told.BadHexadecimal = refl
from_json_is_short Told.BadCharacter = refl
from_json_is_short Told.BadTime = refl
from_json_is_short Told.NoType = refl
from_json_is_short Told.BadIdentifier = refl

pub from_json_short : (e : FromJsonError) → length (from_json_name e) < 32
from_json_short e = ltb-true (length (from_json_name e)) 32 (from_json_is_short e)

-- what is put is what was answered
pub put_as : {T : Type 0} (items : T → List ℕ) (are : List ℕ → Type 0) (r : Result T Refusal) (before after : List ℕ) (written : ℕ)
    → IfOk r (λ t. are (items t)) → IsAnswerPut items r before after written → Puts are before after written
put_as items are (Ok t) before after written h p = record { octets = items t; answered = h; put = p }
put_as items are (Err e) before after written h p = absurd p

unput : (are : List ℕ → Type 0) (refused : Refusal → Type 0) (room written : ℕ) (r : Refusal) → (refused NoRoom → ⊥) → refused r → written ≡ 0
    → IsUnput are refused room written r
unput are refused room written OutOfMemory n h w = (h, w)
unput are refused room written UnknownOptions n h w = (h, w)
unput are refused room written UnknownType n h w = (h, w)
unput are refused room written NoRoom n h w = absurd (n h)
unput are refused room written (Decode k) n h w = (h, w)
unput are refused room written (Encode k) n h w = (h, w)
unput are refused room written (Json e) n h w = (h, w)
unput are refused room written NoTypes n h w = (h, w)
unput are refused room written AlreadyLoaded n h w = (h, w)
unput are refused room written BadSchema n h w = (h, w)
unput are refused room written OtherType n h w = (h, w)
unput are refused room written (FromJson e) n h w = (h, w)

-- and what isn't put lacks room or was refused
pub unput_by : {T : Type 0} (items : T → List ℕ) (are : List ℕ → Type 0) (refused : Refusal → Type 0) (r : Result T Refusal) (room written code : ℕ)
    → (refused NoRoom → ⊥) → IfOk r (λ t. are (items t)) → IfErr r (λ e. refused e) → IsAnswerUnput items r room written code → IsUnputBy are refused room written code
unput_by items are refused (Ok t) room written code n h k u = (NoRoom, record { octets = items t; answered = h; count = u.0; lacks = u.1 }, u.2)
unput_by items are refused (Err e) room written code n h k u = (e, unput are refused room written e n k u.0, u.1)
