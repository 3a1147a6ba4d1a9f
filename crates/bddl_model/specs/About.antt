-- What the program tells of itself.
use Rattle.std.specs.Prelude.{ℕ, List, ◌++◌, codes}

abbrev pub help_text : List ℕ
help_text =
    codes "bddl compile DOMAIN PROBLEM   writes the formula of a game\n"
    ++ (codes "bddl solve DOMAIN PROBLEM N   decides a game, in at most N steps\n"
    ++ (codes "bddl qsolve FORMULA N         decides a formula, in at most N steps\n"
    ++ (codes "bddl certify DOMAIN PROBLEM N writes a strategy of Black, found in at most N steps\n"
    ++ (codes "bddl check DOMAIN PROBLEM CERTIFICATE\n"
    ++ (codes "                              tells whether a strategy wins\n"
    ++ (codes "bddl recert DOMAIN PROBLEM CERTIFICATE\n"
    ++ (codes "                              writes it with one node for each place\n"
    ++ (codes "bddl play DOMAIN PROBLEM CERTIFICATE WHO START\n"
    ++ (codes "                              plays a strategy against you (WHO 0), the first\n"
    ++ (codes "                              move (1), or moves that START decides (2)\n"
    ++ (codes "bddl trial START N            makes two games from a number, and decides the small one\n"
    ++ (codes "bddl fmt-domain DOMAIN        writes the canonical text of a domain\n"
    ++ (codes "bddl fmt-problem PROBLEM      writes the canonical text of a problem\n"
    ++ (codes "bddl help, bddl --help        writes this text\n"
    ++ (codes "bddl version, bddl --version  writes the name, and the kit that proved the program\n"
    ++ (codes "\n"
    ++ (codes "0   the text was written\n"
    ++ (codes "1   there is no such request\n"
    ++ (codes "2   a file is refused\n"
    ++ (codes "3   a file could not be read\n"
    ++ (codes "4   a write failed\n"
    ++ (codes "5   memory ran out\n"
    ++ (codes "6   a certificate is refused\n"
    ++ (codes "7   no reply came\n"
    ++ (codes "8   a reply is none of the moves\n"
    ++ (codes "10  the game is won, or the formula is true\n"
    ++ (codes "20  the game is not won, or the formula is false\n"
    ++ codes "30  the steps are spent\n")))))))))))))))))))))))))))

abbrev pub version_text : List ℕ
version_text = codes "bddl, rattle-kit-13f logic dac8208d650f15bf\n"
