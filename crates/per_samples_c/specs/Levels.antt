-- ENUMERATED { l0, l1, .., l63 }
use Rattle.rasn_below.specs.Page.{Value, item, root}
use Rattle.per_samples_c.specs.declared.levels.Level.{Level}
use Rattle.per_samples_c.specs.declared.levels.Level.TheVariants.{L0, L1, L2, L3, L4, L5, L6, L7, L8, L9, L10, L11, L12}
use Rattle.per_samples_c.specs.declared.levels.Level.TheVariants.{L13, L14, L15, L16, L17, L18, L19, L20, L21, L22, L23}
use Rattle.per_samples_c.specs.declared.levels.Level.TheVariants.{L24, L25, L26, L27, L28, L29, L30, L31, L32, L33, L34}
use Rattle.per_samples_c.specs.declared.levels.Level.TheVariants.{L35, L36, L37, L38, L39, L40, L41, L42, L43, L44, L45}
use Rattle.per_samples_c.specs.declared.levels.Level.TheVariants.{L46, L47, L48, L49, L50, L51, L52, L53, L54, L55, L56}
use Rattle.per_samples_c.specs.declared.levels.Level.TheVariants.{L57, L58, L59, L60, L61, L62, L63}

abbrev pub level : Level → Value
level L0 = item root 0
level L1 = item root 1
level L2 = item root 2
level L3 = item root 3
level L4 = item root 4
level L5 = item root 5
level L6 = item root 6
level L7 = item root 7
level L8 = item root 8
level L9 = item root 9
level L10 = item root 10
level L11 = item root 11
level L12 = item root 12
level L13 = item root 13
level L14 = item root 14
level L15 = item root 15
level L16 = item root 16
level L17 = item root 17
level L18 = item root 18
level L19 = item root 19
level L20 = item root 20
level L21 = item root 21
level L22 = item root 22
level L23 = item root 23
level L24 = item root 24
level L25 = item root 25
level L26 = item root 26
level L27 = item root 27
level L28 = item root 28
level L29 = item root 29
level L30 = item root 30
level L31 = item root 31
level L32 = item root 32
level L33 = item root 33
level L34 = item root 34
level L35 = item root 35
level L36 = item root 36
level L37 = item root 37
level L38 = item root 38
level L39 = item root 39
level L40 = item root 40
level L41 = item root 41
level L42 = item root 42
level L43 = item root 43
level L44 = item root 44
level L45 = item root 45
level L46 = item root 46
level L47 = item root 47
level L48 = item root 48
level L49 = item root 49
level L50 = item root 50
level L51 = item root 51
level L52 = item root 52
level L53 = item root 53
level L54 = item root 54
level L55 = item root 55
level L56 = item root 56
level L57 = item root 57
level L58 = item root 58
level L59 = item root 59
level L60 = item root 60
level L61 = item root 61
level L62 = item root 62
level L63 = item root 63
