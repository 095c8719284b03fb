-- What strings tell of times.
use Rattle.std.proofs.Common.{◌≡◌, refl, sym, ap, ◌∙◌, Bool, true, false, cond, List, ℕ, Option, Some, None, option_map}
use Rattle.std.specs.Str.{chars}
use Rattle.rasn_types.specs.Alphabets.{bmp, has_all}
use Rattle.rasn_types.specs.Contents.{is_time, TimeKind}
use Rattle.rasn_types.specs.Values.{Value, characters}
use Rattle.rasn_schema.specs.Schemas
use Rattle.rasn_schema.specs.Structures.{is_of_kind}
use Rattle.rasn_dynamic.specs.declared.values.Value.{Value as Tree}
use Rattle.rasn_dynamic.specs.Values.{slot_of, value_of}
use Rattle.rasn_dynamic.proofs.Trees.{value_there}
use Rattle.rasn_dynamic_jer.specs.FromJson.{characters_told, time_told}

-- the characters that were read are those of the string
read_characters : (s : List ℕ) (x : Tree) → option_map Some (characters_told s) ≡ Some (slot_of x) → value_of x ≡ characters (chars s)
read_characters s x h = go (has_all bmp (chars s)) h
  where
    go : (b : Bool) → option_map Some (cond b (Some (characters (chars s))) None) ≡ Some (slot_of x) → value_of x ≡ characters (chars s)
    go true e = let f : slot_of x ≡ Some (characters (chars s)) = cc in value_there x (characters (chars s)) f
    go false e = absurd cc

module _ (kind : TimeKind) (s : List ℕ) where
  judged : (x : Tree) (b : Bool) → option_map Some (characters_told s) ≡ Some (slot_of x) → b ≡ is_of_kind (Schemas.time kind) (value_of x) → is_time kind (chars s) ≡ b
  judged x b h e = sym (e ∙ ap (is_of_kind (Schemas.time kind)) (read_characters s x h))

  pub told_time : (x : Tree) → option_map Some (characters_told s) ≡ Some (slot_of x) → true ≡ is_of_kind (Schemas.time kind) (value_of x) → option_map Some (time_told kind s) ≡ Some (slot_of x)
  told_time x h e = ap (λ b. option_map Some (cond b (characters_told s) None)) (judged x true h e) ∙ h

  pub untold_time : (x : Tree) → option_map Some (characters_told s) ≡ Some (slot_of x) → false ≡ is_of_kind (Schemas.time kind) (value_of x) → time_told kind s ≡ None
  untold_time x h e = ap (λ b. cond b (characters_told s) None) (judged x false h e)

  pub untold_text : characters_told s ≡ None → time_told kind s ≡ None
  untold_text e = go (is_time kind (chars s))
    where
      go : (b : Bool) → cond b (characters_told s) None ≡ None
      go true = e
      go false = refl
