-- The instruction table: for each row its mnemonic, its format, its opcode and its operands.
use Rattle.std.specs.Prelude.{ℕ, List, codes}
use Rattle.spu_decode.specs.declared.row.Row.{Row}
use Rattle.spu_decode.specs.declared.row.Row.TheVariants.{Lqd, Stqd, Lqx, Stqx, Lqa, Stqa, Lqr, Stqr, Cbd, Chd, Cwd, Cdd, Cbx, Chx, Cwx, Cdx, Il, Ilh, Ilhu, Ila, Iohl, Fsmbi, Ah, A, Ahi, Ai, Sfh, Sf, Sfhi, Sfi, Addx, Sfx, Cg, Cgx, Bg, Bgx, Mpy, Mpyu, Mpyi, Mpyui, Mpya, Mpyh, Mpys, Mpyhh, Mpyhha, Mpyhhu, Mpyhhau, Clz, Cntb, Fsmb, Fsmh, Fsm, Gbb, Gbh, Gb, Xsbh, Xshw, Xswd, Avgb, Absdb, Sumb, And, Andc, Or, Orc, Xor, Nand, Nor, Eqv, Andbi, Andhi, Andi, Orbi, Orhi, Ori, Xorbi, Xorhi, Xori, Orx, Selb, Shufb, Shlh, Shlhi, Shl, Shli, Shlqbi, Shlqbii, Shlqby, Shlqbyi, Shlqbybi, Roth, Rothi, Rot, Roti, Rotqby, Rotqbyi, Rotqbybi, Rotqbi, Rotqbii, Rothm, Rothmi, Rotm, Rotmi, Rotqmby, Rotqmbyi, Rotqmbybi, Rotqmbi, Rotqmbii, Rotmah, Rotmahi, Rotma, Rotmai, Ceqb, Ceqbi, Ceqh, Ceqhi, Ceq, Ceqi, Cgtb, Cgtbi, Cgth, Cgthi, Cgt, Cgti, Clgtb, Clgtbi, Clgth, Clgthi, Clgt, Clgti, Heq, Heqi, Hgt, Hgti, Hlgt, Hlgti, Br, Bra, Brsl, Brasl, Bi, Bisl, Brnz, Brz, Brhnz, Brhz, Binz, Biz, Bihnz, Bihz, Stop, Lnop, Sync, Dsync, Nop, Rdch, Rchcnt, Wrch, Hbr, Hbra, Hbrr}
use Rattle.spu_decode.specs.declared.shape.Format.{Format}
use Rattle.spu_decode.specs.declared.shape.Format.TheVariants.{Rr, Indirect, Rrr, Ri7, Ri10, Ri16, Ri18, Stop}
use Rattle.spu_decode.specs.declared.shape.Operands.{Operands}
use Rattle.spu_decode.specs.declared.shape.Operands.TheVariants.{RtDisplacementRa, RtRaRb, RtAbsolute, RtRelative, RtSevenRa, RtSignedHalf, RtHalf, RtUnsigned, RtRaTen, RtRaRbRc, RtRa, RtRaByte, RtRaSeven, RaRb, RaTen, Relative, Absolute, Ra, Code, Bare, OptionalRegister, RtChannel, ChannelRt, HintRa, HintAddresses}
use Rattle.spu_decode.specs.declared.shape.Shape.{Shape}

pub record Entry : Type 0 where
  pub mnemonic : List ℕ
  pub shape : Shape

abbrev pub row : List ℕ → Format → ℕ → Operands → Entry
row mnemonic format opcode operands =
    record { mnemonic = mnemonic; shape = record { format = format; opcode = opcode; operands = operands } }

unfoldable pub entry_of : Row → Entry
entry_of Lqd = row (codes "lqd") Ri10 0x34 RtDisplacementRa
entry_of Stqd = row (codes "stqd") Ri10 0x24 RtDisplacementRa
entry_of Lqx = row (codes "lqx") Rr 0x1C4 RtRaRb
entry_of Stqx = row (codes "stqx") Rr 0x144 RtRaRb
entry_of Lqa = row (codes "lqa") Ri16 0x061 RtAbsolute
entry_of Stqa = row (codes "stqa") Ri16 0x041 RtAbsolute
entry_of Lqr = row (codes "lqr") Ri16 0x067 RtRelative
entry_of Stqr = row (codes "stqr") Ri16 0x047 RtRelative
entry_of Cbd = row (codes "cbd") Ri7 0x1F4 RtSevenRa
entry_of Chd = row (codes "chd") Ri7 0x1F5 RtSevenRa
entry_of Cwd = row (codes "cwd") Ri7 0x1F6 RtSevenRa
entry_of Cdd = row (codes "cdd") Ri7 0x1F7 RtSevenRa
entry_of Cbx = row (codes "cbx") Rr 0x1D4 RtRaRb
entry_of Chx = row (codes "chx") Rr 0x1D5 RtRaRb
entry_of Cwx = row (codes "cwx") Rr 0x1D6 RtRaRb
entry_of Cdx = row (codes "cdx") Rr 0x1D7 RtRaRb
entry_of Il = row (codes "il") Ri16 0x081 RtSignedHalf
entry_of Ilh = row (codes "ilh") Ri16 0x083 RtHalf
entry_of Ilhu = row (codes "ilhu") Ri16 0x082 RtHalf
entry_of Ila = row (codes "ila") Ri18 0x21 RtUnsigned
entry_of Iohl = row (codes "iohl") Ri16 0x0C1 RtHalf
entry_of Fsmbi = row (codes "fsmbi") Ri16 0x065 RtHalf
entry_of Ah = row (codes "ah") Rr 0x0C8 RtRaRb
entry_of A = row (codes "a") Rr 0x0C0 RtRaRb
entry_of Ahi = row (codes "ahi") Ri10 0x1D RtRaTen
entry_of Ai = row (codes "ai") Ri10 0x1C RtRaTen
entry_of Sfh = row (codes "sfh") Rr 0x048 RtRaRb
entry_of Sf = row (codes "sf") Rr 0x040 RtRaRb
entry_of Sfhi = row (codes "sfhi") Ri10 0x0D RtRaTen
entry_of Sfi = row (codes "sfi") Ri10 0x0C RtRaTen
entry_of Addx = row (codes "addx") Rr 0x340 RtRaRb
entry_of Sfx = row (codes "sfx") Rr 0x341 RtRaRb
entry_of Cg = row (codes "cg") Rr 0x0C2 RtRaRb
entry_of Cgx = row (codes "cgx") Rr 0x342 RtRaRb
entry_of Bg = row (codes "bg") Rr 0x042 RtRaRb
entry_of Bgx = row (codes "bgx") Rr 0x343 RtRaRb
entry_of Mpy = row (codes "mpy") Rr 0x3C4 RtRaRb
entry_of Mpyu = row (codes "mpyu") Rr 0x3CC RtRaRb
entry_of Mpyi = row (codes "mpyi") Ri10 0x74 RtRaTen
entry_of Mpyui = row (codes "mpyui") Ri10 0x75 RtRaTen
entry_of Mpya = row (codes "mpya") Rrr 0xC RtRaRbRc
entry_of Mpyh = row (codes "mpyh") Rr 0x3C5 RtRaRb
entry_of Mpys = row (codes "mpys") Rr 0x3C7 RtRaRb
entry_of Mpyhh = row (codes "mpyhh") Rr 0x3C6 RtRaRb
entry_of Mpyhha = row (codes "mpyhha") Rr 0x346 RtRaRb
entry_of Mpyhhu = row (codes "mpyhhu") Rr 0x3CE RtRaRb
entry_of Mpyhhau = row (codes "mpyhhau") Rr 0x34E RtRaRb
entry_of Clz = row (codes "clz") Rr 0x2A5 RtRa
entry_of Cntb = row (codes "cntb") Rr 0x2B4 RtRa
entry_of Fsmb = row (codes "fsmb") Rr 0x1B6 RtRa
entry_of Fsmh = row (codes "fsmh") Rr 0x1B5 RtRa
entry_of Fsm = row (codes "fsm") Rr 0x1B4 RtRa
entry_of Gbb = row (codes "gbb") Rr 0x1B2 RtRa
entry_of Gbh = row (codes "gbh") Rr 0x1B1 RtRa
entry_of Gb = row (codes "gb") Rr 0x1B0 RtRa
entry_of Xsbh = row (codes "xsbh") Rr 0x2B6 RtRa
entry_of Xshw = row (codes "xshw") Rr 0x2AE RtRa
entry_of Xswd = row (codes "xswd") Rr 0x2A6 RtRa
entry_of Avgb = row (codes "avgb") Rr 0x0D3 RtRaRb
entry_of Absdb = row (codes "absdb") Rr 0x053 RtRaRb
entry_of Sumb = row (codes "sumb") Rr 0x253 RtRaRb
entry_of And = row (codes "and") Rr 0x0C1 RtRaRb
entry_of Andc = row (codes "andc") Rr 0x2C1 RtRaRb
entry_of Or = row (codes "or") Rr 0x041 RtRaRb
entry_of Orc = row (codes "orc") Rr 0x2C9 RtRaRb
entry_of Xor = row (codes "xor") Rr 0x241 RtRaRb
entry_of Nand = row (codes "nand") Rr 0x0C9 RtRaRb
entry_of Nor = row (codes "nor") Rr 0x049 RtRaRb
entry_of Eqv = row (codes "eqv") Rr 0x249 RtRaRb
entry_of Andbi = row (codes "andbi") Ri10 0x16 RtRaByte
entry_of Andhi = row (codes "andhi") Ri10 0x15 RtRaTen
entry_of Andi = row (codes "andi") Ri10 0x14 RtRaTen
entry_of Orbi = row (codes "orbi") Ri10 0x06 RtRaByte
entry_of Orhi = row (codes "orhi") Ri10 0x05 RtRaTen
entry_of Ori = row (codes "ori") Ri10 0x04 RtRaTen
entry_of Xorbi = row (codes "xorbi") Ri10 0x46 RtRaByte
entry_of Xorhi = row (codes "xorhi") Ri10 0x45 RtRaTen
entry_of Xori = row (codes "xori") Ri10 0x44 RtRaTen
entry_of Orx = row (codes "orx") Rr 0x1F0 RtRa
entry_of Selb = row (codes "selb") Rrr 0x8 RtRaRbRc
entry_of Shufb = row (codes "shufb") Rrr 0xB RtRaRbRc
entry_of Shlh = row (codes "shlh") Rr 0x05F RtRaRb
entry_of Shlhi = row (codes "shlhi") Ri7 0x07F RtRaSeven
entry_of Shl = row (codes "shl") Rr 0x05B RtRaRb
entry_of Shli = row (codes "shli") Ri7 0x07B RtRaSeven
entry_of Shlqbi = row (codes "shlqbi") Rr 0x1DB RtRaRb
entry_of Shlqbii = row (codes "shlqbii") Ri7 0x1FB RtRaSeven
entry_of Shlqby = row (codes "shlqby") Rr 0x1DF RtRaRb
entry_of Shlqbyi = row (codes "shlqbyi") Ri7 0x1FF RtRaSeven
entry_of Shlqbybi = row (codes "shlqbybi") Rr 0x1CF RtRaRb
entry_of Roth = row (codes "roth") Rr 0x05C RtRaRb
entry_of Rothi = row (codes "rothi") Ri7 0x07C RtRaSeven
entry_of Rot = row (codes "rot") Rr 0x058 RtRaRb
entry_of Roti = row (codes "roti") Ri7 0x078 RtRaSeven
entry_of Rotqby = row (codes "rotqby") Rr 0x1DC RtRaRb
entry_of Rotqbyi = row (codes "rotqbyi") Ri7 0x1FC RtRaSeven
entry_of Rotqbybi = row (codes "rotqbybi") Rr 0x1CC RtRaRb
entry_of Rotqbi = row (codes "rotqbi") Rr 0x1D8 RtRaRb
entry_of Rotqbii = row (codes "rotqbii") Ri7 0x1F8 RtRaSeven
entry_of Rothm = row (codes "rothm") Rr 0x05D RtRaRb
entry_of Rothmi = row (codes "rothmi") Ri7 0x07D RtRaSeven
entry_of Rotm = row (codes "rotm") Rr 0x059 RtRaRb
entry_of Rotmi = row (codes "rotmi") Ri7 0x079 RtRaSeven
entry_of Rotqmby = row (codes "rotqmby") Rr 0x1DD RtRaRb
entry_of Rotqmbyi = row (codes "rotqmbyi") Ri7 0x1FD RtRaSeven
entry_of Rotqmbybi = row (codes "rotqmbybi") Rr 0x1CD RtRaRb
entry_of Rotqmbi = row (codes "rotqmbi") Rr 0x1D9 RtRaRb
entry_of Rotqmbii = row (codes "rotqmbii") Ri7 0x1F9 RtRaSeven
entry_of Rotmah = row (codes "rotmah") Rr 0x05E RtRaRb
entry_of Rotmahi = row (codes "rotmahi") Ri7 0x07E RtRaSeven
entry_of Rotma = row (codes "rotma") Rr 0x05A RtRaRb
entry_of Rotmai = row (codes "rotmai") Ri7 0x07A RtRaSeven
entry_of Ceqb = row (codes "ceqb") Rr 0x3D0 RtRaRb
entry_of Ceqbi = row (codes "ceqbi") Ri10 0x7E RtRaByte
entry_of Ceqh = row (codes "ceqh") Rr 0x3C8 RtRaRb
entry_of Ceqhi = row (codes "ceqhi") Ri10 0x7D RtRaTen
entry_of Ceq = row (codes "ceq") Rr 0x3C0 RtRaRb
entry_of Ceqi = row (codes "ceqi") Ri10 0x7C RtRaTen
entry_of Cgtb = row (codes "cgtb") Rr 0x250 RtRaRb
entry_of Cgtbi = row (codes "cgtbi") Ri10 0x4E RtRaByte
entry_of Cgth = row (codes "cgth") Rr 0x248 RtRaRb
entry_of Cgthi = row (codes "cgthi") Ri10 0x4D RtRaTen
entry_of Cgt = row (codes "cgt") Rr 0x240 RtRaRb
entry_of Cgti = row (codes "cgti") Ri10 0x4C RtRaTen
entry_of Clgtb = row (codes "clgtb") Rr 0x2D0 RtRaRb
entry_of Clgtbi = row (codes "clgtbi") Ri10 0x5E RtRaByte
entry_of Clgth = row (codes "clgth") Rr 0x2C8 RtRaRb
entry_of Clgthi = row (codes "clgthi") Ri10 0x5D RtRaTen
entry_of Clgt = row (codes "clgt") Rr 0x2C0 RtRaRb
entry_of Clgti = row (codes "clgti") Ri10 0x5C RtRaTen
entry_of Heq = row (codes "heq") Rr 0x3D8 RaRb
entry_of Heqi = row (codes "heqi") Ri10 0x7F RaTen
entry_of Hgt = row (codes "hgt") Rr 0x258 RaRb
entry_of Hgti = row (codes "hgti") Ri10 0x4F RaTen
entry_of Hlgt = row (codes "hlgt") Rr 0x2D8 RaRb
entry_of Hlgti = row (codes "hlgti") Ri10 0x5F RaTen
entry_of Br = row (codes "br") Ri16 0x064 Relative
entry_of Bra = row (codes "bra") Ri16 0x060 Absolute
entry_of Brsl = row (codes "brsl") Ri16 0x066 RtRelative
entry_of Brasl = row (codes "brasl") Ri16 0x062 RtAbsolute
entry_of Bi = row (codes "bi") Indirect 0x1A8 Ra
entry_of Bisl = row (codes "bisl") Indirect 0x1A9 RtRa
entry_of Brnz = row (codes "brnz") Ri16 0x042 RtRelative
entry_of Brz = row (codes "brz") Ri16 0x040 RtRelative
entry_of Brhnz = row (codes "brhnz") Ri16 0x046 RtRelative
entry_of Brhz = row (codes "brhz") Ri16 0x044 RtRelative
entry_of Binz = row (codes "binz") Indirect 0x129 RtRa
entry_of Biz = row (codes "biz") Indirect 0x128 RtRa
entry_of Bihnz = row (codes "bihnz") Indirect 0x12B RtRa
entry_of Bihz = row (codes "bihz") Indirect 0x12A RtRa
entry_of Stop = row (codes "stop") Stop 0x000 Code
entry_of Lnop = row (codes "lnop") Rr 0x001 Bare
entry_of Sync = row (codes "sync") Rr 0x002 Bare
entry_of Dsync = row (codes "dsync") Rr 0x003 Bare
entry_of Nop = row (codes "nop") Rr 0x201 OptionalRegister
entry_of Rdch = row (codes "rdch") Rr 0x00D RtChannel
entry_of Rchcnt = row (codes "rchcnt") Rr 0x00F RtChannel
entry_of Wrch = row (codes "wrch") Rr 0x10D ChannelRt
entry_of Hbr = row (codes "hbr") Rr 0x1AC HintRa
entry_of Hbra = row (codes "hbra") Ri18 0x08 HintAddresses
entry_of Hbrr = row (codes "hbrr") Ri18 0x09 HintAddresses
