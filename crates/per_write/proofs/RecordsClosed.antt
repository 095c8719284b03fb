-- A SEQUENCE that is opened and closed, and a group that is left out.
use Rattle.std.specs.Prelude.{Result, Ok, Err}
use Rattle.std.proofs.Common.{◌≡◌, refl, sym, ap, ap₂, ◌∙◌, subst, inl, ℕ, zero, suc, Bool, true, false, ◌||◌, [], ◌∷◌, ◌++◌, List, length, replicate, Option, Some, None, ◌+◌, append-nil}
use Rattle.rasn_types.specs.Bits.{Bits}
use Rattle.rasn_types.specs.Variants.{variant_of, Variant, aligned}
use Rattle.rasn_types.specs.declared.types.Codec.{Codec}
use Rattle.per_core.specs.Canon.{any_set, bitmap}
use Rattle.per_core.specs.Counts.{open_bits}
use Rattle.per_core.specs.Writers.{join, just, pad, padding, ◌▹◌}
use Rattle.per_pieces.specs.Pieces.{Appends, Piece, bit, to_octet, Pieces, bit_count, bits_of, plain, placed_bits, with_bit, with_bits}
use Rattle.per_pieces.proofs.Placed.{settle_plain}
use Rattle.per_pieces.proofs.Zeros.{with_both}
use Rattle.per_core.specs.declared.encode_error.EncodeError.{EncodeError}
use Rattle.per_write.specs.Additions.{ClosesOrNot, GivesOrNot, OutsideAddition, PutsAddition, PutsContents, is_group_there, with_next}
use Rattle.per_write.specs.Faults.{IsMemory}
use Rattle.per_write.specs.Records.{ExtendedAfter, Opens, PutsAdditions, after_root, extension_room, kept_additions}
use Rattle.per_write.specs.WriterState.{Additions, AppendsBits, Puts, Frame, WriterState, StateAppends}
use Rattle.per_write.proofs.Writing.{wrote_then}

-- without an extension marker no bit is in front
pub no_room : (x : WriterState) → x ≡ record x { pieces = with_bits x.pieces [] }
no_room x = ap (λ (ps : List Piece). record x { pieces = record { list = ps; placed = x.pieces.placed } }) (sym (append-nil x.pieces.list))

-- room is made after the extension bit
pub record_opened : (n : ℕ) (additions : Option ℕ) (x m z y : WriterState) (q : Pieces) (place : ℕ) (kept : Option Additions) (outside : Frame) → x.failed ≡ false → m ≡ record x { pieces = with_bits x.pieces (extension_room additions) } →
    kept ≡ kept_additions (bit_count x.pieces.list) additions → q ≡ with_bits m.pieces (replicate n false) → z ≡ record m { pieces = q } → place ≡ bit_count m.pieces.list → outside ≡ z.scope →
    y ≡ record z { scope = record { presences = record { place = place; left = n }; additions = kept; is_open = true } } → Opens n additions x outside y
record_opened n additions x m z y q place kept outside f e k w v p o d = record {
  begun = f;
  waits = o ∙ ap (λ (s : WriterState). s.scope) v ∙ ap (λ (s : WriterState). s.scope) e;
  unfailed = ap (λ (s : WriterState). s.failed) d ∙ ap (λ (s : WriterState). s.failed) v ∙ ap (λ (s : WriterState). s.failed) e ∙ f;
  same = ap (λ (s : WriterState). s.codec) d ∙ ap (λ (s : WriterState). s.codec) v ∙ ap (λ (s : WriterState). s.codec) e;
  pieces = ap (λ (s : WriterState). s.pieces) d ∙ ap (λ (s : WriterState). s.pieces) v ∙ w ∙ ap (λ (s : WriterState). with_bits s.pieces (replicate n false)) e ∙ with_both x.pieces (extension_room additions) (replicate n false);
  place = ap (λ (s : WriterState). s.scope.presences) d ∙ ap (λ (i : ℕ). record { place = i; left = n }) (p ∙ ap (λ (s : WriterState). bit_count s.pieces.list) e);
  keeps = ap (λ (s : WriterState). s.scope.additions) d ∙ k;
  is_open = ap (λ (s : WriterState). s.scope.is_open) d;
}

abbrev state : Pieces → Bool → Codec → Frame → WriterState
state b f c s = record { pieces = b; failed = f; codec = c; scope = s }

same_state : (b d : Pieces) (f g : Bool) (c e : Codec) (s t : Frame) → b ≡ d → f ≡ g → c ≡ e → s ≡ t → state b f c s ≡ state d g e t
same_state b d f g c e s t p q r u = ap (λ z. state z f c s) p ∙ ap (λ z. state d z c s) q ∙ ap (λ z. state d g z s) r ∙ ap (state d g e) u

-- X.691 19.7 to 19.9: the additions are put after the root
pub additions_put : (x n q y : WriterState) (pieces : Pieces) (opens : Bits) (k : Additions) (result : Result (Unit {0}) EncodeError) → x.failed ≡ false → length k.flags ≡ k.count → any_set k.flags ≡ true → pieces ≡ with_bit x.pieces k.extension true →
    StateAppends (record x { pieces = pieces }) (bitmap (variant_of x.codec) k.flags) n → StateAppends n (padding (variant_of n.codec)) q → opens ≡ k.opens → Puts IsMemory (just opens) q result y → PutsAdditions k x result y
additions_put x n q y pieces opens k (Ok u) f g t e w v o p =
    let a = variant_of x.codec in
    let all = wrote_then (record x { pieces = pieces }) n y (bitmap a k.flags) (padding a ▹ just k.opens) w
    (wrote_then n q y (padding a) (just k.opens) (subst (λ (c : Codec). StateAppends n (padding (variant_of c)) q) w.same v) (subst (λ (bs : Bits). StateAppends q (just bs) y) o p.ok)) in
    record {
      given = g;
      pieces = subst (λ (b : Bool). ExtendedAfter a k b x.pieces y.pieces) (sym t) (subst (λ (z : Pieces). Appends z (after_root a k) y.pieces) e all.appended);
      same = same_state y.pieces y.pieces y.failed x.failed y.codec x.codec y.scope x.scope refl (all.left ∙ sym f) all.same all.beside;
      err = tt;
      fails = tt;
      kept = all.same;
    }
additions_put x n q y pieces opens k (Err d) f g t e w v o p = record {
  given = tt;
  pieces = tt;
  same = tt;
  err = inl (record { kind_is = p.err.kind_is; codec_is = p.err.codec_is ∙ v.same ∙ w.same });
  fails = p.fails;
  kept = p.kept ∙ v.same ∙ w.same;
}

zeros_after : (n : ℕ) (bs : Bits) → any_set (replicate n false ++ bs) ≡ any_set bs
zeros_after zero bs = refl
zeros_after (suc n) bs = zeros_after n bs

-- padding sets no bit
pub any_settled : (ps : List Piece) (p : ℕ) → any_set (placed_bits ps p) ≡ any_set (bits_of ps)
any_settled [] p = refl
any_settled (bit b ∷ ps) p = ap (λ (c : Bool). b || c) (any_settled ps (p + 1))
any_settled (to_octet ∷ ps) p = zeros_after (pad aligned p) (placed_bits ps 0) ∙ any_settled ps 0

-- X.691 11.2: the contents of an open type, after others
pub contents_put : (k l : Additions) (q d : Pieces) (x m w y : WriterState) (contents opens others : Bits) → x.failed ≡ false → m ≡ record x { pieces = q } → q ≡ record { list = plain others; placed = true } → others ≡ k.opens →
    StateAppends m (open_bits (variant_of m.codec) (Some contents)) w → opens ≡ placed_bits w.pieces.list 0 → y ≡ record w { pieces = d } → d ≡ x.pieces → l ≡ record k { opens = opens } → PutsContents k contents x (Ok l) y
contents_put k l q d x m w y contents opens others f e i n h o t b j =
    let codec : m.codec ≡ x.codec = ap (λ (s : WriterState). s.codec) e in
    let list : placed_bits m.pieces.list 0 ≡ k.opens = ap (λ (s : WriterState). placed_bits s.pieces.list 0) e ∙ ap (λ (z : Pieces). placed_bits z.list 0) i ∙ settle_plain others 0 ∙ n in
    record {
      opens = ap Some (ap (λ (a : Additions). a.opens) j ∙ o) ∙ h.appended.written 0 (λ t. refl)
          ∙ ap₂ (λ (bs : Bits) (z : Codec). (just bs ▹ open_bits (variant_of z) (Some contents)) 0) list codec;
      others = j ∙ ap (λ (bs : Bits). record k { opens = bs }) (sym (ap (λ (a : Additions). a.opens) j));
      same = t ∙ same_state d x.pieces w.failed x.failed w.codec x.codec w.scope x.scope b (h.left ∙ sym f) (h.same ∙ codec) (h.beside ∙ ap (λ (s : WriterState). s.scope) e);
      err = tt;
      fails = tt;
      kept = ap (λ (s : WriterState). s.codec) t ∙ h.same ∙ codec;
    }

-- what was written is these contents
pub addition_put : (k : Additions) (before d : Pieces) (x z y : WriterState) (contents : Bits) (result : Result Additions EncodeError) → z ≡ record x { pieces = d } → d ≡ before → contents ≡ placed_bits x.pieces.list 0 →
    PutsContents k contents z result y → PutsAddition k before x result y
addition_put k before d x z y contents (Ok l) e b c p =
    let codec : z.codec ≡ x.codec = ap (λ (s : WriterState). s.codec) e in
    record {
      opens = p.opens ∙ ap₂ (λ (bs : Bits) (v : Codec). (just k.opens ▹ open_bits (variant_of v) (Some bs)) 0) c codec;
      others = p.others;
      same = p.same ∙ e ∙ ap (λ (w : Pieces). record x { pieces = w }) b;
      err = tt;
      fails = tt;
      kept = p.kept ∙ codec;
    }
addition_put k before d x z y contents (Err f) e b c p =
    let codec : z.codec ≡ x.codec = ap (λ (s : WriterState). s.codec) e in
    record { opens = tt; others = tt; same = tt; err = record { kind_is = p.err.kind_is; codec_is = p.err.codec_is ∙ codec }; fails = p.fails; kept = p.kept ∙ codec }

join_nothing : (o : Option Bits) → join [] o ≡ o
join_nothing None = refl
join_nothing (Some b) = refl

-- the first open type
pub first_put : (k l : Additions) (before d : Pieces) (x y : WriterState) (contents opens : Bits) → k.opens ≡ [] → y ≡ record x { pieces = d } → d ≡ before → contents ≡ placed_bits x.pieces.list 0 →
    ((a : Variant) → Some opens ≡ open_bits a (Some contents) 0) → l ≡ record k { opens = opens } → PutsAddition k before x (Ok l) y
first_put k l before d x y contents opens n e b c o j = record {
  opens = ap (λ (a : Additions). Some a.opens) j ∙ o (variant_of x.codec) ∙ sym (join_nothing (open_bits (variant_of x.codec) (Some contents) 0))
      ∙ ap₂ (λ (bs cs : Bits). (just bs ▹ open_bits (variant_of x.codec) (Some cs)) 0) (sym n) c;
  others = j ∙ ap (λ (bs : Bits). record k { opens = bs }) (sym (ap (λ (a : Additions). a.opens) j));
  same = e ∙ ap (λ (w : Pieces). record x { pieces = w }) b;
  err = tt;
  fails = tt;
  kept = ap (λ (s : WriterState). s.codec) e;
}

pub addition_closed : (x w y : WriterState) (o : OutsideAddition) (k l : Additions) (result : Result (Unit {0}) EncodeError) → x.failed ≡ false → k ≡ o.additions →
    AppendsBits k.opens (open_bits (variant_of x.codec) (Some (placed_bits x.pieces.list 0))) l.opens → l ≡ record k { opens = l.opens } → w.pieces ≡ o.pieces → w.failed ≡ x.failed → w.codec ≡ x.codec →
    w.scope.presences ≡ o.presences → w.scope.is_open ≡ x.scope.is_open → GivesOrNot true l w result y → ClosesOrNot true o x result y
addition_closed x w y o k l (Ok u) f e a d b g c p q h = record {
  ok = record {
    begun = f;
    opens = l.opens;
    appended = subst (λ (j : Additions). AppendsBits j.opens (open_bits (variant_of x.codec) (Some (placed_bits x.pieces.list 0))) l.opens) e a;
    same = h.ok ∙ same_state w.pieces o.pieces w.failed x.failed w.codec x.codec _ _ b g c (ap₂ (λ r i. record { presences = r; additions = Some (with_next l true l.opens); is_open = i }) p q
        ∙ ap (λ (j : Additions). record { presences = o.presences; additions = Some (with_next j true l.opens); is_open = x.scope.is_open }) (d ∙ ap (λ (j : Additions). record j { opens = l.opens }) e));
  };
  err = tt;
  fails = tt;
  kept = h.kept ∙ c;
}
addition_closed x w y o k l (Err d) f e a i b g c p q h = record {
  ok = tt;
  err = record { kind_is = h.err.kind_is; codec_is = h.err.codec_is ∙ c };
  fails = h.fails;
  kept = h.kept ∙ c;
}

-- X.691 19.9: a group is left out
pub group_absent : (x w y : WriterState) (o : OutsideAddition) (k : Additions) (has : Bool) (result : Result (Unit {0}) EncodeError) → is_group_there has (placed_bits x.pieces.list 0) ≡ false → x.failed ≡ false → w.pieces ≡ o.pieces → w.failed ≡ x.failed → w.codec ≡ x.codec →
    w.scope.presences ≡ o.presences → w.scope.is_open ≡ x.scope.is_open → k ≡ o.additions → GivesOrNot false k w result y → ClosesOrNot (is_group_there has (placed_bits x.pieces.list 0)) o x result y
group_absent x w y o k has (Ok u) n f b g c p q e h = rw n (record {
  ok = record {
    begun = f;
    opens = o.additions.opens;
    appended = ap Some (sym (append-nil o.additions.opens));
    same = h.ok ∙ same_state w.pieces o.pieces w.failed x.failed w.codec x.codec _ _ b g c (ap₂ (λ r i. record { presences = r; additions = Some (with_next k false k.opens); is_open = i }) p q
        ∙ ap (λ (l : Additions). record { presences = o.presences; additions = Some (with_next l false l.opens); is_open = x.scope.is_open }) e);
  };
  err = tt;
  fails = tt;
  kept = h.kept ∙ c;
})
group_absent x w y o k has (Err d) n f b g c p q e h = rw n (record {
  ok = tt;
  err = record { kind_is = h.err.kind_is; codec_is = h.err.codec_is ∙ c };
  fails = h.fails;
  kept = h.kept ∙ c;
})
