-- The symbols of the elements (CTfile Formats, "The Atom Block": the atom symbol is an entry of the periodic table).
use Rattle.std.specs.Prelude.{ℕ, ◌-◌, List, [], ◌==◌, slice_index_or}
use Rattle.std.specs.List.{slice_split}
use lib.Chars.{codes}

-- the place of a symbol, counted from 1, is its atomic number
abbrev pub symbols_text : List ℕ
symbols_text = codes "H He Li Be B C N O F Ne Na Mg Al Si P S Cl Ar K Ca Sc Ti V Cr Mn Fe Co Ni Cu Zn Ga Ge As Se Br Kr Rb Sr Y Zr Nb Mo Tc Ru Rh Pd Ag Cd In Sn Sb Te I Xe Cs Ba La Ce Pr Nd Pm Sm Eu Gd Tb Dy Ho Er Tm Yb Lu Hf Ta W Re Os Ir Pt Au Hg Tl Pb Bi Po At Rn Fr Ra Ac Th Pa U Np Pu Am Cm Bk Cf Es Fm Md No Lr Rf Db Sg Bh Hs Mt Ds Rg Cn Nh Fl Mc Lv Ts Og"

abbrev pub symbols : List (List ℕ)
symbols = slice_split (λ b. b == 32) symbols_text

-- the symbol of an atomic number from 1 to 118
abbrev pub symbol_of : ℕ → List ℕ
symbol_of element = slice_index_or symbols (element - 1) []
