-- What an instruction computes is a quadword of 16 bytes, whatever it is computed from.
use Rattle.std.proofs.Common.{◌≡◌, ℕ, zero, suc, ◌*◌, ◌/◌, List, [], ◌∷◌, length, drop, refl, sym, ◌∙◌, ap, arith, length-append}
use Rattle.std.proofs.lemmas.List.{length-map, length-replicate}
use Rattle.std.proofs.lemmas.List.FromFn.{length-range_with_len}
use Rattle.std.proofs.lemmas.Simd.{length-zip2}
use Rattle.std.specs.Prelude.{IfSome}
use Rattle.std.specs.Int.{Width, byte_len, w8, w16, w32, w64}
use Rattle.std.specs.List.{range_with_len}
use Rattle.cell_base.specs.Bytes.{spelled}
use Rattle.cell_base.specs.Lanes.{slices, joined, lanes, of_lanes, map_lanes, zip_lanes, zip3, zip3_lanes, lanes_from, splat, in_first_word}
use Rattle.cell_base.proofs.BytesLemmas.{length-bytes}
use Rattle.spu_decode.specs.declared.row.Row.{Row}
use Rattle.spu_decode.specs.declared.row.Row.TheVariants.{Shlh, Shlhi, Shl, Shli, Shlqbi, Shlqbii, Shlqby, Shlqbyi, Shlqbybi, Roth, Rothi, Rot, Roti, Rotqby, Rotqbyi, Rotqbybi, Rotqbi, Rotqbii, Rothm, Rothmi, Rotm, Rotmi, Rotqmby, Rotqmbyi, Rotqmbybi, Rotqmbi, Rotqmbii, Rotmah, Rotmahi, Rotma, Rotmai, And, Andc, Or, Orc, Xor, Nand, Nor, Eqv, Andbi, Andhi, Andi, Orbi, Orhi, Ori, Xorbi, Xorhi, Xori, Orx, Selb, Cbd, Chd, Cwd, Cdd, Cbx, Chx, Cwx, Cdx, Clz, Cntb, Fsmb, Fsmh, Fsm, Gbb, Gbh, Gb, Xsbh, Xshw, Xswd, Avgb, Absdb, Sumb, Shufb, Mpy, Mpyu, Mpyi, Mpyui, Mpya, Mpyh, Mpys, Mpyhh, Mpyhha, Mpyhhu, Mpyhhau, Ceqb, Ceqbi, Ceqh, Ceqhi, Ceq, Ceqi, Cgtb, Cgtbi, Cgth, Cgthi, Cgt, Cgti, Clgtb, Clgtbi, Clgth, Clgthi, Clgt, Clgti, Il, Ilh, Ilhu, Ila, Iohl, Fsmbi, Ah, A, Ahi, Ai, Sfh, Sf, Sfhi, Sfi, Addx, Sfx, Cg, Cgx, Bg, Bgx}
use Rattle.spu_exec.specs.Computed.{computed}
use Rattle.spu_int.specs.Rows.{mpy_of, mpyu_of, mpyi_of, mpyui_of, mpya_of, mpyh_of, mpys_of, mpyhh_of, mpyhha_of, mpyhhu_of, mpyhhau_of, ceqb_of, ceqbi_of, ceqh_of, ceqhi_of, ceq_of, ceqi_of, cgtb_of, cgtbi_of, cgth_of, cgthi_of, cgt_of, cgti_of, clgtb_of, clgtbi_of, clgth_of, clgthi_of, clgt_of, clgti_of, il_of, ilh_of, ilhu_of, ila_of, iohl_of, fsmbi_of, ah_of, a_of, ahi_of, ai_of, sfh_of, sf_of, sfhi_of, sfi_of, addx_of, sfx_of, cg_of, cgx_of, bg_of, bgx_of}
use Rattle.spu_bits.specs.Rows.{and_of, andc_of, or_of, orc_of, xor_of, nand_of, nor_of, eqv_of, andbi_of, andhi_of, andi_of, orbi_of, orhi_of, ori_of, xorbi_of, xorhi_of, xori_of, orx_of, selb_of, cbd_of, chd_of, cwd_of, cdd_of, cbx_of, chx_of, cwx_of, cdx_of, clz_of, cntb_of, fsmb_of, fsmh_of, fsm_of, gbb_of, gbh_of, gb_of, xsbh_of, xshw_of, xswd_of, avgb_of, absdb_of, sumb_of, shufb_of}
use Rattle.spu_shift.specs.Rows.{shlh_of, shlhi_of, shl_of, shli_of, shlqbi_of, shlqbii_of, shlqby_of, shlqbyi_of, shlqbybi_of, roth_of, rothi_of, rot_of, roti_of, rotqby_of, rotqbyi_of, rotqbybi_of, rotqbi_of, rotqbii_of, rothm_of, rothmi_of, rotm_of, rotmi_of, rotqmby_of, rotqmbyi_of, rotqmbybi_of, rotqmbi_of, rotqmbii_of, rotmah_of, rotmahi_of, rotma_of, rotmai_of}

spelled_long : (n x : ℕ) → length (spelled n x) ≡ n
unfolding spelled
spelled_long n x = length-bytes n x

joined_long : (n : ℕ) (xs : List ℕ) → length (joined n xs) ≡ n * length xs
joined_long n [] = omega arith
joined_long n (x ∷ xs) = length-append (spelled n x) (joined n xs) ∙ (let a = spelled_long n x in let b = joined_long n xs in omega arith)

slices_long : (n k : ℕ) (bytes : List ℕ) → length (slices n k bytes) ≡ k
slices_long n zero bytes = refl
slices_long n (suc k) bytes = ap suc (slices_long n k (drop n bytes))

lanes_long : (w : Width) (a : List ℕ) → length (lanes w a) ≡ 16 / byte_len w
unfolding lanes
lanes_long w a = slices_long (byte_len w) (16 / byte_len w) a

quad_long : (w : Width) (xs : List ℕ) → byte_len w * (16 / byte_len w) ≡ 16 → length xs ≡ 16 / byte_len w → length (of_lanes w xs) ≡ 16
unfolding of_lanes
quad_long w xs e h = joined_long (byte_len w) xs ∙ ap (λ k. byte_len w * k) h ∙ e

zip3_length : (f : ℕ → ℕ → ℕ → ℕ) (xs ys zs : List ℕ) → length ys ≡ length xs → length zs ≡ length xs → length (zip3 f xs ys zs) ≡ length xs
zip3_length f [] [] [] h g = refl
zip3_length f (x ∷ xs) (y ∷ ys) (z ∷ zs) h g = ap suc (zip3_length f xs ys zs (omega arith) (omega arith))
zip3_length f [] (y ∷ ys) zs h g = absurd (omega arith)
zip3_length f [] [] (z ∷ zs) h g = absurd (omega arith)
zip3_length f (x ∷ xs) [] zs h g = absurd (omega arith)
zip3_length f (x ∷ xs) (y ∷ ys) [] h g = absurd (omega arith)

map_long : (w : Width) (f : ℕ → ℕ) (a : List ℕ) → byte_len w * (16 / byte_len w) ≡ 16 → length (map_lanes w f a) ≡ 16
map_long w f a e = quad_long w _ e (length-map (lanes w a) f ∙ lanes_long w a)

zip_long : (w : Width) (f : ℕ → ℕ → ℕ) (a b : List ℕ) → byte_len w * (16 / byte_len w) ≡ 16 → length (zip_lanes w f a b) ≡ 16
zip_long w f a b e = quad_long w _ e (length-zip2 f (lanes w a) (lanes w b) (lanes_long w a ∙ sym (lanes_long w b)) ∙ lanes_long w a)

zip3_long : (w : Width) (f : ℕ → ℕ → ℕ → ℕ) (a b c : List ℕ) → byte_len w * (16 / byte_len w) ≡ 16 → length (zip3_lanes w f a b c) ≡ 16
zip3_long w f a b c e = quad_long w _ e (zip3_length f (lanes w a) (lanes w b) (lanes w c) (lanes_long w b ∙ sym (lanes_long w a)) (lanes_long w c ∙ sym (lanes_long w a)) ∙ lanes_long w a)

from_long : (w : Width) (g : ℕ → ℕ) → byte_len w * (16 / byte_len w) ≡ 16 → length (lanes_from w g) ≡ 16
unfolding lanes_from
from_long w g e = quad_long w _ e (length-map (range_with_len 0 (16 / byte_len w)) g ∙ length-range_with_len 0 (16 / byte_len w))

splat_long : (w : Width) (x : ℕ) → byte_len w * (16 / byte_len w) ≡ 16 → length (splat w x) ≡ 16
splat_long w x e = quad_long w _ e (length-replicate (16 / byte_len w) x)

pub first_long : (x : ℕ) → length (in_first_word x) ≡ 16
first_long x = quad_long w32 _ refl refl

pub computed-long : (row : Row) (imm : ℕ) (a b c t : List ℕ) → IfSome (computed row imm a b c t) (λ q. length q ≡ 16)
unfolding shlh_of shlhi_of shl_of shli_of shlqbi_of shlqbii_of shlqby_of shlqbyi_of shlqbybi_of roth_of rothi_of rot_of roti_of rotqby_of rotqbyi_of rotqbybi_of rotqbi_of rotqbii_of rothm_of rothmi_of rotm_of rotmi_of rotqmby_of rotqmbyi_of rotqmbybi_of rotqmbi_of rotqmbii_of rotmah_of rotmahi_of rotma_of rotmai_of and_of andc_of or_of orc_of xor_of nand_of nor_of eqv_of andbi_of andhi_of andi_of orbi_of orhi_of ori_of xorbi_of xorhi_of xori_of orx_of selb_of cbd_of chd_of cwd_of cdd_of cbx_of chx_of cwx_of cdx_of clz_of cntb_of fsmb_of fsmh_of fsm_of gbb_of gbh_of gb_of xsbh_of xshw_of xswd_of avgb_of absdb_of sumb_of shufb_of mpy_of mpyu_of mpyi_of mpyui_of mpya_of mpyh_of mpys_of mpyhh_of mpyhha_of mpyhhu_of mpyhhau_of ceqb_of ceqbi_of ceqh_of ceqhi_of ceq_of ceqi_of cgtb_of cgtbi_of cgth_of cgthi_of cgt_of cgti_of clgtb_of clgtbi_of clgth_of clgthi_of clgt_of clgti_of il_of ilh_of ilhu_of ila_of iohl_of fsmbi_of ah_of a_of ahi_of ai_of sfh_of sf_of sfhi_of sfi_of addx_of sfx_of cg_of cgx_of bg_of bgx_of
computed-long Shlh imm a b c t = zip_long w16 _ _ _ refl
computed-long Shlhi imm a b c t = zip_long w16 _ _ _ refl
computed-long Shl imm a b c t = zip_long w32 _ _ _ refl
computed-long Shli imm a b c t = zip_long w32 _ _ _ refl
computed-long Shlqbi imm a b c t = spelled_long 16 _
computed-long Shlqbii imm a b c t = spelled_long 16 _
computed-long Shlqby imm a b c t = spelled_long 16 _
computed-long Shlqbyi imm a b c t = spelled_long 16 _
computed-long Shlqbybi imm a b c t = spelled_long 16 _
computed-long Roth imm a b c t = zip_long w16 _ _ _ refl
computed-long Rothi imm a b c t = zip_long w16 _ _ _ refl
computed-long Rot imm a b c t = zip_long w32 _ _ _ refl
computed-long Roti imm a b c t = zip_long w32 _ _ _ refl
computed-long Rotqby imm a b c t = spelled_long 16 _
computed-long Rotqbyi imm a b c t = spelled_long 16 _
computed-long Rotqbybi imm a b c t = spelled_long 16 _
computed-long Rotqbi imm a b c t = spelled_long 16 _
computed-long Rotqbii imm a b c t = spelled_long 16 _
computed-long Rothm imm a b c t = zip_long w16 _ _ _ refl
computed-long Rothmi imm a b c t = zip_long w16 _ _ _ refl
computed-long Rotm imm a b c t = zip_long w32 _ _ _ refl
computed-long Rotmi imm a b c t = zip_long w32 _ _ _ refl
computed-long Rotqmby imm a b c t = spelled_long 16 _
computed-long Rotqmbyi imm a b c t = spelled_long 16 _
computed-long Rotqmbybi imm a b c t = spelled_long 16 _
computed-long Rotqmbi imm a b c t = spelled_long 16 _
computed-long Rotqmbii imm a b c t = spelled_long 16 _
computed-long Rotmah imm a b c t = zip_long w16 _ _ _ refl
computed-long Rotmahi imm a b c t = zip_long w16 _ _ _ refl
computed-long Rotma imm a b c t = zip_long w32 _ _ _ refl
computed-long Rotmai imm a b c t = zip_long w32 _ _ _ refl
computed-long And imm a b c t = spelled_long 16 _
computed-long Andc imm a b c t = spelled_long 16 _
computed-long Or imm a b c t = spelled_long 16 _
computed-long Orc imm a b c t = spelled_long 16 _
computed-long Xor imm a b c t = spelled_long 16 _
computed-long Nand imm a b c t = spelled_long 16 _
computed-long Nor imm a b c t = spelled_long 16 _
computed-long Eqv imm a b c t = spelled_long 16 _
computed-long Andbi imm a b c t = spelled_long 16 _
computed-long Andhi imm a b c t = spelled_long 16 _
computed-long Andi imm a b c t = spelled_long 16 _
computed-long Orbi imm a b c t = spelled_long 16 _
computed-long Orhi imm a b c t = spelled_long 16 _
computed-long Ori imm a b c t = spelled_long 16 _
computed-long Xorbi imm a b c t = spelled_long 16 _
computed-long Xorhi imm a b c t = spelled_long 16 _
computed-long Xori imm a b c t = spelled_long 16 _
computed-long Orx imm a b c t = first_long _
computed-long Selb imm a b c t = spelled_long 16 _
computed-long Cbd imm a b c t = from_long w8 _ refl
computed-long Chd imm a b c t = from_long w8 _ refl
computed-long Cwd imm a b c t = from_long w8 _ refl
computed-long Cdd imm a b c t = from_long w8 _ refl
computed-long Cbx imm a b c t = from_long w8 _ refl
computed-long Chx imm a b c t = from_long w8 _ refl
computed-long Cwx imm a b c t = from_long w8 _ refl
computed-long Cdx imm a b c t = from_long w8 _ refl
computed-long Clz imm a b c t = map_long w32 _ _ refl
computed-long Cntb imm a b c t = map_long w8 _ _ refl
computed-long Fsmb imm a b c t = from_long w8 _ refl
computed-long Fsmh imm a b c t = from_long w16 _ refl
computed-long Fsm imm a b c t = from_long w32 _ refl
computed-long Gbb imm a b c t = first_long _
computed-long Gbh imm a b c t = first_long _
computed-long Gb imm a b c t = first_long _
computed-long Xsbh imm a b c t = map_long w16 _ _ refl
computed-long Xshw imm a b c t = map_long w32 _ _ refl
computed-long Xswd imm a b c t = map_long w64 _ _ refl
computed-long Avgb imm a b c t = zip_long w8 _ _ _ refl
computed-long Absdb imm a b c t = zip_long w8 _ _ _ refl
computed-long Sumb imm a b c t = zip_long w32 _ _ _ refl
computed-long Shufb imm a b c t = map_long w8 _ _ refl
computed-long Mpy imm a b c t = zip_long w32 _ _ _ refl
computed-long Mpyu imm a b c t = zip_long w32 _ _ _ refl
computed-long Mpyi imm a b c t = map_long w32 _ _ refl
computed-long Mpyui imm a b c t = map_long w32 _ _ refl
computed-long Mpya imm a b c t = zip3_long w32 _ _ _ _ refl
computed-long Mpyh imm a b c t = zip_long w32 _ _ _ refl
computed-long Mpys imm a b c t = zip_long w32 _ _ _ refl
computed-long Mpyhh imm a b c t = zip_long w32 _ _ _ refl
computed-long Mpyhha imm a b c t = zip3_long w32 _ _ _ _ refl
computed-long Mpyhhu imm a b c t = zip_long w32 _ _ _ refl
computed-long Mpyhhau imm a b c t = zip3_long w32 _ _ _ _ refl
computed-long Ceqb imm a b c t = zip_long w8 _ _ _ refl
computed-long Ceqbi imm a b c t = zip_long w8 _ _ _ refl
computed-long Ceqh imm a b c t = zip_long w16 _ _ _ refl
computed-long Ceqhi imm a b c t = zip_long w16 _ _ _ refl
computed-long Ceq imm a b c t = zip_long w32 _ _ _ refl
computed-long Ceqi imm a b c t = zip_long w32 _ _ _ refl
computed-long Cgtb imm a b c t = zip_long w8 _ _ _ refl
computed-long Cgtbi imm a b c t = zip_long w8 _ _ _ refl
computed-long Cgth imm a b c t = zip_long w16 _ _ _ refl
computed-long Cgthi imm a b c t = zip_long w16 _ _ _ refl
computed-long Cgt imm a b c t = zip_long w32 _ _ _ refl
computed-long Cgti imm a b c t = zip_long w32 _ _ _ refl
computed-long Clgtb imm a b c t = zip_long w8 _ _ _ refl
computed-long Clgtbi imm a b c t = zip_long w8 _ _ _ refl
computed-long Clgth imm a b c t = zip_long w16 _ _ _ refl
computed-long Clgthi imm a b c t = zip_long w16 _ _ _ refl
computed-long Clgt imm a b c t = zip_long w32 _ _ _ refl
computed-long Clgti imm a b c t = zip_long w32 _ _ _ refl
computed-long Il imm a b c t = splat_long w32 _ refl
computed-long Ilh imm a b c t = splat_long w16 _ refl
computed-long Ilhu imm a b c t = splat_long w32 _ refl
computed-long Ila imm a b c t = splat_long w32 _ refl
computed-long Iohl imm a b c t = map_long w32 _ _ refl
computed-long Fsmbi imm a b c t = from_long w8 _ refl
computed-long Ah imm a b c t = zip_long w16 _ _ _ refl
computed-long A imm a b c t = zip_long w32 _ _ _ refl
computed-long Ahi imm a b c t = zip_long w16 _ _ _ refl
computed-long Ai imm a b c t = zip_long w32 _ _ _ refl
computed-long Sfh imm a b c t = zip_long w16 _ _ _ refl
computed-long Sf imm a b c t = zip_long w32 _ _ _ refl
computed-long Sfhi imm a b c t = zip_long w16 _ _ _ refl
computed-long Sfi imm a b c t = zip_long w32 _ _ _ refl
computed-long Addx imm a b c t = zip3_long w32 _ _ _ _ refl
computed-long Sfx imm a b c t = zip3_long w32 _ _ _ _ refl
computed-long Cg imm a b c t = zip_long w32 _ _ _ refl
computed-long Cgx imm a b c t = zip3_long w32 _ _ _ _ refl
computed-long Bg imm a b c t = zip_long w32 _ _ _ refl
computed-long Bgx imm a b c t = zip3_long w32 _ _ _ _ refl
computed-long row imm a b c t = tt
