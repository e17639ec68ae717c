-- Histories at 4 slots. Made by make_tables.py; the texts are what the oracle printed.
use Rattle.std.specs.Prelude.{List, [], ◌∷◌, true}
use Rattle.machine.specs.Machine.{Open, Close, Get, Set, Append, Length, Held, Free, Check}
use Rattle.traces.specs.Told.{History, call, pushes, pops}

abbrev pub histories : List History
histories =
    record {
      blocks = 300;
      moves = call (Open 0 300) ∷ call (Open 0 300) ∷ pushes 3 0 1 ∷ pushes 1 1 4 ∷ call (Append true 0 1) ∷ call (Held 0) ∷ call (Length 1) ∷ call (Get 0 0) ∷ call (Get 0 3) ∷ call (Get 0 4) ∷ [];
      told = "0 0, 0 1, 0 x5, 0 1, 0 0, 0 1, 0 4, 4,";
      left = "0: shift 0 tree 4 tail 0; 1: shift 0 tree - tail 0;";
    }
    ∷
    record {
      blocks = 300;
      moves = call (Open 0 300) ∷ call (Open 0 300) ∷ pushes 5 0 1 ∷ pushes 4 1 6 ∷ call (Append true 0 1) ∷ pushes 9 0 10 ∷ call (Held 0) ∷ call (Length 1) ∷ call (Get 0 0) ∷ call (Get 0 8) ∷ call (Get 0 18) ∷ [];
      told = "0 0, 0 1, 0 x19, 0 8, 0 0, 0 1, 0 9, 4,";
      left = "0: shift 4 tree R[R[4 4 1 4]{4 8 9 13} B[4]]{13 17} tail 1; 1: shift 0 tree - tail 0;";
    }
    ∷
    record {
      blocks = 300;
      moves = call (Open 0 300) ∷ call (Open 0 300) ∷ pushes 1 0 1 ∷ pushes 16 1 2 ∷ call (Append true 0 1) ∷ call (Held 0) ∷ call (Length 1) ∷ call (Get 0 0) ∷ call (Get 0 16) ∷ call (Get 0 17) ∷ [];
      told = "0 0, 0 1, 0 x18, 0 8, 0 0, 0 1, 0 17, 4,";
      left = "0: shift 4 tree R[B[4 4 4 4] R[1]{1}]{16 17} tail 0; 1: shift 0 tree - tail 0;";
    }
    ∷
    record {
      blocks = 300;
      moves = call (Open 0 300) ∷ call (Open 0 300) ∷ pushes 16 0 1 ∷ pushes 16 1 17 ∷ call (Append true 0 1) ∷ pushes 5 0 33 ∷ call (Held 0) ∷ call (Length 1) ∷ call (Get 0 0) ∷ call (Get 0 31) ∷ call (Get 0 37) ∷ [];
      told = "0 0, 0 1, 0 x38, 0 13, 0 0, 0 1, 0 32, 4,";
      left = "0: shift 4 tree B[B[4 4 4 4] B[4 4 4 4] B[4]] tail 1; 1: shift 0 tree - tail 0;";
    }
    ∷
    record {
      blocks = 300;
      moves = call (Open 0 300) ∷ call (Open 0 300) ∷ pushes 17 0 1 ∷ pushes 4 1 18 ∷ call (Append true 0 1) ∷ pushes 17 0 22 ∷ call (Held 0) ∷ call (Length 1) ∷ call (Get 0 0) ∷ call (Get 0 20) ∷ call (Get 0 38) ∷ [];
      told = "0 0, 0 1, 0 x39, 0 14, 0 0, 0 1, 0 21, 4,";
      left = "0: shift 4 tree R[B[4 4 4 4] R[4 1 4 4]{4 5 9 13} B[4 4]]{16 29 37} tail 1; 1: shift 0 tree - tail 0;";
    }
    ∷
    record {
      blocks = 300;
      moves = call (Open 0 300) ∷ call (Open 0 300) ∷ pushes 3 0 1 ∷ pushes 19 1 4 ∷ call (Append true 0 1) ∷ pushes 40 0 23 ∷ call (Held 0) ∷ call (Length 1) ∷ call (Get 0 0) ∷ call (Get 0 21) ∷ call (Get 0 62) ∷ [];
      told = "0 0, 0 1, 0 x63, 0 20, 0 0, 0 1, 0 22, 4,";
      left = "0: shift 4 tree R[B[4 4 4 4] R[3 4 4 4]{3 7 11 15} B[4 4 4 4] B[4 4 4]]{16 31 47 59} tail 3; 1: shift 0 tree - tail 0;";
    }
    ∷
    record {
      blocks = 300;
      moves = call (Open 0 300) ∷ call (Open 0 300) ∷ pushes 20 0 1 ∷ pushes 14 1 21 ∷ call (Append true 0 1) ∷ call (Held 0) ∷ call (Length 1) ∷ call (Get 0 0) ∷ call (Get 0 33) ∷ call (Get 0 34) ∷ [];
      told = "0 0, 0 1, 0 x35, 0 11, 0 0, 0 1, 0 34, 4,";
      left = "0: shift 4 tree B[B[4 4 4 4] B[4 4 4 4]] tail 2; 1: shift 0 tree - tail 0;";
    }
    ∷
    record {
      blocks = 300;
      moves = call (Open 0 300) ∷ call (Open 0 300) ∷ pushes 64 0 1 ∷ pushes 5 1 65 ∷ call (Append true 0 1) ∷ pushes 13 0 70 ∷ call (Held 0) ∷ call (Length 1) ∷ call (Get 0 0) ∷ call (Get 0 68) ∷ call (Get 0 82) ∷ [];
      told = "0 0, 0 1, 0 x83, 0 28, 0 0, 0 1, 0 69, 4,";
      left = "0: shift 6 tree R[B[B[4 4 4 4] B[4 4 4 4] B[4 4 4 4] B[4 4 4 4]] R[B[4 4 4 4]]{16}]{64 80} tail 2; 1: shift 0 tree - tail 0;";
    }
    ∷
    record {
      blocks = 300;
      moves = call (Open 0 300) ∷ call (Open 0 300) ∷ pushes 1 0 1 ∷ pushes 64 1 2 ∷ call (Append true 0 1) ∷ pushes 30 0 66 ∷ call (Held 0) ∷ call (Length 1) ∷ call (Get 0 0) ∷ call (Get 0 64) ∷ call (Get 0 95) ∷ [];
      told = "0 0, 0 1, 0 x96, 0 33, 0 0, 0 1, 0 65, 4,";
      left = "0: shift 6 tree R[R[B[4 4 4 4] R[1 4 4 4]{1 5 9 13} B[4 4 4 4] B[4 4 4 4]]{16 29 45 61} R[B[4 4 4 4] B[4 4 4 4]]{16 32}]{61 93} tail 2; 1: shift 0 tree - tail 0;";
    }
    ∷
    record {
      blocks = 300;
      moves = call (Open 0 300) ∷ call (Open 0 300) ∷ pushes 66 0 1 ∷ pushes 64 1 67 ∷ call (Append true 0 1) ∷ pushes 3 0 131 ∷ call (Held 0) ∷ call (Length 1) ∷ call (Get 0 0) ∷ call (Get 0 129) ∷ call (Get 0 133) ∷ [];
      told = "0 0, 0 1, 0 x134, 0 46, 0 0, 0 1, 0 130, 4,";
      left = "0: shift 6 tree R[B[B[4 4 4 4] B[4 4 4 4] B[4 4 4 4] B[4 4 4 4]] R[B[4 4 4 4] R[2 4 4 4]{2 6 10 14} B[4 4 4 4] B[4 4 4 4]]{16 30 46 62} R[B[4]]{4}]{64 126 130} tail 3; 1: shift 0 tree - tail 0;";
    }
    ∷
    record {
      blocks = 300;
      moves = call (Open 0 300) ∷ call (Open 0 300) ∷ pushes 17 0 1 ∷ pushes 1 1 18 ∷ call (Append true 1 0) ∷ pushes 1 0 19 ∷ call (Append true 0 1) ∷ pushes 1 1 20 ∷ call (Append true 1 0) ∷ pushes 1 0 21 ∷ call (Append true 0 1) ∷ pushes 1 1 22 ∷ call (Append true 1 0) ∷ pushes 1 0 23 ∷ call (Append true 0 1) ∷ call (Held 0) ∷ pops 5 0 ∷ pushes 6 0 24 ∷ [];
      told = "0 0, 0 1, 0 x29, 0 14, 0 17, 0 16, 0 15, 0 14, 0 13, 0 x6,";
      left = "0: shift 4 tree R[B[4 4 4 4] R[1 1 4]{1 2 6}]{16 22} tail 2; 1: shift 0 tree - tail 0;";
    }
    ∷
    record {
      blocks = 300;
      moves = call (Open 0 300) ∷ call (Open 0 300) ∷ pushes 4 0 1 ∷ pushes 4 1 5 ∷ call (Append true 1 0) ∷ pushes 4 0 9 ∷ call (Append true 0 1) ∷ pushes 4 1 13 ∷ call (Append true 1 0) ∷ pushes 4 0 17 ∷ call (Append true 0 1) ∷ pushes 4 1 21 ∷ call (Append true 1 0) ∷ pushes 4 0 25 ∷ call (Append true 0 1) ∷ pushes 4 1 29 ∷ call (Append true 1 0) ∷ pushes 4 0 33 ∷ call (Append true 0 1) ∷ pushes 4 1 37 ∷ call (Append true 1 0) ∷ pushes 4 0 41 ∷ call (Append true 0 1) ∷ pushes 4 1 45 ∷ call (Append true 1 0) ∷ pushes 4 0 49 ∷ call (Append true 0 1) ∷ call (Held 0) ∷ pops 5 0 ∷ pushes 6 0 53 ∷ [];
      told = "0 0, 0 1, 0 x64, 0 18, 0 4, 0 3, 0 2, 0 1, 0 8, 0 x6,";
      left = "0: shift 4 tree R[B[4 4 4 4] B[4 4 4 4] B[4 4 4 4] B[4]]{16 32 48 52} tail 1; 1: shift 0 tree - tail 0;";
    }
    ∷
    record {
      blocks = 300;
      moves = call (Open 0 300) ∷ call (Open 0 300) ∷ pushes 21 0 1 ∷ pushes 3 1 22 ∷ call (Append true 1 0) ∷ pushes 3 0 25 ∷ call (Append true 0 1) ∷ pushes 3 1 28 ∷ call (Append true 1 0) ∷ pushes 3 0 31 ∷ call (Append true 0 1) ∷ pushes 3 1 34 ∷ call (Append true 1 0) ∷ pushes 3 0 37 ∷ call (Append true 0 1) ∷ pushes 3 1 40 ∷ call (Append true 1 0) ∷ pushes 3 0 43 ∷ call (Append true 0 1) ∷ pushes 3 1 46 ∷ call (Append true 1 0) ∷ call (Held 1) ∷ pops 5 1 ∷ pushes 6 1 49 ∷ [];
      told = "0 0, 0 1, 0 x57, 0 19, 0 21, 0 20, 0 19, 0 18, 0 17, 0 x6,";
      left = "0: shift 0 tree - tail 0; 1: shift 4 tree R[B[4 4 4 4] R[3 3 3 3]{3 6 9 12} R[3 3 3 3]{3 6 9 12} R[3 4]{3 7}]{16 28 40 47} tail 2;";
    }
    ∷
    record {
      blocks = 300;
      moves = call (Open 0 300) ∷ call (Open 0 300) ∷ call (Open 0 300) ∷ call (Append true 1 2) ∷ pushes 37 1 1 ∷ pops 4 2 ∷ call (Append true 2 0) ∷ pushes 1 2 38 ∷ call (Append true 0 1) ∷ pops 4 0 ∷ call (Set 2 0 39) ∷ call (Get 2 1) ∷ call (Set 0 6 40) ∷ call (Get 0 4) ∷ pushes 9 0 41 ∷ call (Append true 0 1) ∷ pushes 3 0 50 ∷ pushes 5 0 53 ∷ pops 1 0 ∷ call (Set 2 2 58) ∷ call (Get 2 6) ∷ pushes 9 1 59 ∷ pushes 2 0 68 ∷ call (Append true 0 2) ∷ call (Held 0) ∷ call (Length 0) ∷ call (Held 1) ∷ call (Length 1) ∷ call (Held 2) ∷ call (Length 2) ∷ call Check ∷ [];
      told = "0 0, 0 1, 0 2, 0 x38, 4 x4, 0 x3, 0 37, 0 36, 0 35, 0 34, 0, 4, 0, 0 5, 0 x18, 0 57, 4 x2, 0 x12, 0 18, 0 52, 0 3, 0 9, 0 0 x2, 0,";
      left = "0: shift 4 tree B[B[4 4 4 4] B[4 4 4 4] B[4 4 4 4] B[4]] tail 0; 1: shift 2 tree B[4 4] tail 1; 2: shift 0 tree - tail 0;";
    }
    ∷
    record {
      blocks = 300;
      moves = call (Open 0 300) ∷ call (Open 0 300) ∷ call (Open 0 300) ∷ call (Append true 0 1) ∷ pushes 2 0 1 ∷ call (Append true 2 1) ∷ call (Append true 2 1) ∷ call (Append true 0 1) ∷ call (Append true 1 2) ∷ pushes 1 0 3 ∷ pushes 3 2 4 ∷ call (Append true 2 0) ∷ call (Set 2 6 7) ∷ call (Get 2 9) ∷ pushes 4 0 8 ∷ call (Append true 1 0) ∷ call (Append true 1 2) ∷ pops 2 2 ∷ pushes 9 1 12 ∷ pops 6 2 ∷ pops 1 1 ∷ pushes 3 2 21 ∷ call (Held 0) ∷ call (Length 0) ∷ call (Held 1) ∷ call (Length 1) ∷ call (Held 2) ∷ call (Length 2) ∷ call Check ∷ [];
      told = "0 0, 0 1, 0 2, 0 x12, 4 x2, 0 x6, 4 x2, 0 x9, 4 x6, 0 20, 0 x3, 0 0 x2, 0 5, 0 18, 0 0, 0 3, 0,";
      left = "0: shift 0 tree - tail 0; 1: shift 2 tree B[4 4 4 4] tail 2; 2: shift 0 tree - tail 3;";
    }
    ∷
    record {
      blocks = 300;
      moves = call (Open 0 300) ∷ call (Open 0 300) ∷ call (Open 0 300) ∷ pushes 4 0 1 ∷ pushes 4 1 5 ∷ pushes 19 0 9 ∷ call (Set 2 2 28) ∷ call (Get 2 7) ∷ pops 2 0 ∷ call (Append true 2 0) ∷ call (Append true 2 0) ∷ call (Append true 1 0) ∷ pops 4 1 ∷ pushes 37 0 29 ∷ pushes 3 2 66 ∷ call (Append true 2 0) ∷ call (Append true 2 0) ∷ pushes 37 2 69 ∷ pops 6 0 ∷ pops 2 1 ∷ pops 2 1 ∷ pushes 5 2 106 ∷ call (Held 0) ∷ call (Length 0) ∷ call (Held 1) ∷ call (Length 1) ∷ call (Held 2) ∷ call (Length 2) ∷ call Check ∷ [];
      told = "0 0, 0 1, 0 2, 0 x27, 4 x2, 0 27, 0 26, 0 x3, 0 8, 0 7, 0 6, 0 5, 0 x79, 4 x10, 0 x5, 0 0 x4, 0 35, 0 103, 0,";
      left = "0: shift 0 tree - tail 0; 1: shift 0 tree - tail 0; 2: shift 6 tree R[R[B[4 4 4 4] B[4 4 4 4] B[4 4 4 4] B[4 4 4 4]]{16 32 48 64} B[B[4 4 4 4] B[4 4 4 4] B[4]]]{64 100} tail 3;";
    }
    ∷
    record {
      blocks = 300;
      moves = call (Open 0 300) ∷ call (Open 0 300) ∷ call (Open 0 300) ∷ call (Set 2 6 1) ∷ call (Get 2 4) ∷ call (Append true 1 2) ∷ pushes 16 2 2 ∷ call (Set 1 3 18) ∷ call (Get 1 7) ∷ pushes 5 1 19 ∷ pushes 16 0 24 ∷ call (Append true 2 1) ∷ pushes 19 2 40 ∷ pushes 4 2 59 ∷ call (Append true 1 0) ∷ pops 2 2 ∷ call (Append true 0 1) ∷ pushes 19 2 63 ∷ call (Append true 0 1) ∷ call (Set 2 6 82) ∷ call (Get 2 0) ∷ pushes 37 1 83 ∷ pushes 19 2 120 ∷ pushes 3 1 139 ∷ call (Held 0) ∷ call (Length 0) ∷ call (Held 1) ∷ call (Length 1) ∷ call (Held 2) ∷ call (Length 2) ∷ call Check ∷ [];
      told = "0 0, 0 1, 0 2, 4 x2, 0 x17, 4 x2, 0 x46, 0 62, 0 61, 0 x22, 0 2, 0 x59, 0 5, 0 16, 0 14, 0 40, 0 28, 0 80, 0,";
      left = "0: shift 2 tree B[4 4 4 4] tail 0; 1: shift 4 tree B[B[4 4 4 4] B[4 4 4 4] B[4 4]] tail 0; 2: shift 6 tree R[R[B[4 4 4 4] B[4 4 4 4] B[4 4 4 4] B[4 4 4 4]]{16 32 48 64} B[B[4 4 4 4]]]{64 80} tail 0;";
    }
    ∷
    record {
      blocks = 300;
      moves = call (Open 0 300) ∷ call (Open 0 300) ∷ call (Open 0 300) ∷ pushes 9 2 1 ∷ call (Set 2 2 10) ∷ call (Get 2 7) ∷ pushes 19 2 11 ∷ pushes 9 0 30 ∷ pushes 16 1 39 ∷ pushes 16 2 55 ∷ pushes 5 2 71 ∷ pushes 9 1 76 ∷ pushes 9 2 85 ∷ call (Append true 2 1) ∷ call (Append true 0 1) ∷ pushes 9 1 94 ∷ pops 6 0 ∷ pushes 3 1 103 ∷ pushes 1 0 106 ∷ pops 4 1 ∷ pops 2 0 ∷ pushes 2 1 107 ∷ call (Held 0) ∷ call (Length 0) ∷ call (Held 1) ∷ call (Length 1) ∷ call (Held 2) ∷ call (Length 2) ∷ call Check ∷ [];
      told = "0 0, 0 1, 0 2, 0 x10, 0 8, 0 x94, 0 38, 0 37, 0 36, 0 35, 0 34, 0 33, 0 x4, 0 105, 0 104, 0 103, 0 102, 0 106, 0 32, 0 x2, 0 0, 0 2, 0 3, 0 10, 0 30, 0 83, 0,";
      left = "0: shift 0 tree - tail 2; 1: shift 2 tree B[4 4] tail 2; 2: shift 6 tree R[B[B[4 4 4 4] B[4 4 4 4] B[4 4 4 4] B[4 4 4 4]] R[R[4 4 2 4]{4 8 10 14} B[4]]{14 18}]{64 82} tail 1;";
    }
    ∷
    record {
      blocks = 300;
      moves = call (Open 0 300) ∷ call (Open 0 300) ∷ call (Open 0 300) ∷ pushes 5 0 1 ∷ call (Append true 1 0) ∷ pushes 19 1 6 ∷ call (Append true 1 0) ∷ call (Set 2 4 25) ∷ call (Get 2 9) ∷ pushes 1 0 26 ∷ pops 1 2 ∷ pushes 9 2 27 ∷ pops 4 1 ∷ pops 4 1 ∷ pushes 5 0 36 ∷ call (Set 1 2 41) ∷ call (Get 1 6) ∷ call (Append true 2 0) ∷ pops 2 2 ∷ pops 6 1 ∷ call (Append true 2 0) ∷ pushes 1 0 42 ∷ pops 4 2 ∷ call (Held 0) ∷ call (Length 0) ∷ call (Held 1) ∷ call (Length 1) ∷ call (Held 2) ∷ call (Length 2) ∷ call Check ∷ [];
      told = "0 0, 0 1, 0 2, 0 x26, 4 x2, 0, 4, 0 x9, 0 24, 0 23, 0 22, 0 21, 0 20, 0 19, 0 18, 0 17, 0 x6, 0 7, 0, 0 40, 0 39, 0 16, 0 15, 0 14, 0 13, 0 12, 0 11, 0 x2, 0 38, 0 37, 0 36, 0 26, 0 0, 0 1, 0 3, 0 10, 0 3, 0 9, 0,";
      left = "0: shift 0 tree - tail 1; 1: shift 2 tree B[4 4] tail 2; 2: shift 2 tree R[4 4]{4 8} tail 1;";
    }
    ∷
    record {
      blocks = 300;
      moves = call (Open 0 300) ∷ call (Open 0 300) ∷ call (Open 0 300) ∷ pushes 16 0 1 ∷ call (Append true 2 0) ∷ call (Append true 2 1) ∷ call (Set 0 1 17) ∷ call (Get 0 10) ∷ call (Append true 1 2) ∷ call (Append true 2 0) ∷ pushes 37 0 18 ∷ pops 6 1 ∷ call (Append true 1 2) ∷ pushes 37 2 55 ∷ pushes 9 2 92 ∷ call (Append true 1 0) ∷ pushes 37 1 101 ∷ pushes 19 2 138 ∷ pushes 5 2 157 ∷ pushes 5 0 162 ∷ pops 6 1 ∷ pushes 19 0 167 ∷ call (Held 0) ∷ call (Length 0) ∷ call (Held 1) ∷ call (Length 1) ∷ call (Held 2) ∷ call (Length 2) ∷ call Check ∷ [];
      told = "0 0, 0 1, 0 2, 0 x18, 4 x2, 0 x39, 0 16, 0 15, 0 14, 0 13, 0 12, 0 11, 0 x114, 0 137, 0 136, 0 135, 0 134, 0 133, 0 132, 0 x19, 0 9, 0 24, 0 28, 0 78, 0 25, 0 70, 0,";
      left = "0: shift 4 tree B[B[4 4 4 4] B[4 4]] tail 0; 1: shift 6 tree R[R[B[4 4 4 4] R[4 4 2 4]{4 8 10 14} B[4 4 4 4] B[4 4 4 4]]{16 30 46 62} B[B[4 4 4 4]]]{62 78} tail 0; 2: shift 6 tree B[B[B[4 4 4 4] B[4 4 4 4] B[4 4 4 4] B[4 4 4 4]] B[B[4]]] tail 2;";
    }
    ∷
    record {
      blocks = 300;
      moves = call (Open 0 300) ∷ call (Open 0 300) ∷ call (Open 0 300) ∷ pushes 1 0 1 ∷ pushes 5 0 2 ∷ pops 2 0 ∷ pushes 3 1 7 ∷ pushes 37 1 10 ∷ pushes 2 1 47 ∷ pushes 19 0 49 ∷ pushes 3 1 68 ∷ pushes 5 0 71 ∷ pops 1 0 ∷ pushes 2 1 76 ∷ pushes 2 2 78 ∷ pushes 16 2 80 ∷ pushes 4 2 96 ∷ pops 2 1 ∷ pops 4 0 ∷ call (Append true 1 0) ∷ pops 6 1 ∷ call (Held 0) ∷ call (Length 0) ∷ call (Held 1) ∷ call (Length 1) ∷ call (Held 2) ∷ call (Length 2) ∷ call Check ∷ [];
      told = "0 0, 0 1, 0 2, 0 x6, 0 6, 0 5, 0 x69, 0 75, 0 x24, 0 77, 0 76, 0 74, 0 73, 0 72, 0 71, 0, 0 67, 0 66, 0 65, 0 64, 0 63, 0 62, 0 0 x2, 0 21, 0 62, 0 8, 0 22, 0,";
      left = "0: shift 0 tree - tail 0; 1: shift 4 tree R[B[4 4 4 4] B[4 4 4 4] B[4 4 4 4] R[4 4 4 1]{4 8 12 13}]{16 32 48 61} tail 1; 2: shift 4 tree B[B[4 4 4 4] B[4]] tail 2;";
    }
    ∷
    record {
      blocks = 300;
      moves = call (Open 0 300) ∷ call (Open 0 300) ∷ call (Open 0 300) ∷ pops 4 1 ∷ pushes 1 0 1 ∷ call (Append true 0 2) ∷ call (Append true 1 0) ∷ pushes 9 1 2 ∷ pushes 9 0 11 ∷ pushes 19 0 20 ∷ pops 4 1 ∷ pushes 4 1 39 ∷ pushes 37 2 43 ∷ call (Append true 1 0) ∷ pushes 19 2 80 ∷ call (Append true 0 1) ∷ call (Set 1 2 99) ∷ call (Get 1 6) ∷ pushes 2 2 100 ∷ pushes 37 1 102 ∷ pushes 9 0 139 ∷ pops 2 1 ∷ call (Held 0) ∷ call (Length 0) ∷ call (Held 1) ∷ call (Length 1) ∷ call (Held 2) ∷ call (Length 2) ∷ call Check ∷ [];
      told = "0 0, 0 1, 0 2, 4 x4, 0 x40, 0 10, 0 9, 0 8, 0 7, 0 x62, 4 x2, 0 x48, 0 138, 0 137, 0 16, 0 47, 0 11, 0 35, 0 19, 0 58, 0,";
      left = "0: shift 4 tree R[B[4 4 4 4] R[4 4 2 4]{4 8 10 14} B[4 4 4 4]]{16 30 46} tail 1; 1: shift 4 tree B[B[4 4 4 4] B[4 4 4 4]] tail 3; 2: shift 4 tree B[B[4 4 4 4] B[4 4 4 4] B[4 4 4 4] B[4 4]] tail 2;";
    }
    ∷
    record {
      blocks = 300;
      moves = call (Open 0 300) ∷ call (Open 0 300) ∷ call (Open 0 300) ∷ call (Append true 1 0) ∷ pops 1 1 ∷ call (Append true 2 1) ∷ pushes 3 1 1 ∷ call (Set 2 2 4) ∷ call (Get 2 0) ∷ pops 6 2 ∷ pushes 1 1 5 ∷ call (Append true 2 1) ∷ call (Append true 1 2) ∷ call (Append true 1 2) ∷ call (Append true 1 2) ∷ pushes 19 1 6 ∷ pushes 4 0 25 ∷ pushes 1 1 29 ∷ pushes 9 2 30 ∷ call (Set 2 0 39) ∷ call (Get 2 9) ∷ pops 4 1 ∷ pops 4 1 ∷ call (Held 0) ∷ call (Length 0) ∷ call (Held 1) ∷ call (Length 1) ∷ call (Held 2) ∷ call (Length 2) ∷ call Check ∷ [];
      told = "0 0, 0 1, 0 2, 0, 4, 0 x4, 4 x8, 0 x39, 4, 0 29, 0 24, 0 23, 0 22, 0 21, 0 20, 0 19, 0 18, 0 1, 0 4, 0 5, 0 16, 0 3, 0 9, 0,";
      left = "0: shift 0 tree 4 tail 0; 1: shift 2 tree B[4 4 4 4] tail 0; 2: shift 2 tree B[4 4] tail 1;";
    }
    ∷
    record {
      blocks = 300;
      moves = call (Open 0 300) ∷ call (Open 0 300) ∷ call (Open 0 300) ∷ pushes 37 0 1 ∷ pushes 1 0 38 ∷ call (Append true 2 1) ∷ pushes 16 0 39 ∷ pushes 19 0 55 ∷ call (Set 2 2 74) ∷ call (Get 2 7) ∷ call (Append true 0 1) ∷ pushes 3 2 75 ∷ call (Append true 2 0) ∷ call (Set 0 2 78) ∷ call (Get 0 1) ∷ call (Append true 0 1) ∷ pushes 3 0 79 ∷ pushes 1 2 82 ∷ pushes 9 1 83 ∷ pushes 5 2 92 ∷ pops 2 0 ∷ pops 6 1 ∷ pushes 16 1 97 ∷ call (Held 0) ∷ call (Length 0) ∷ call (Held 1) ∷ call (Length 1) ∷ call (Held 2) ∷ call (Length 2) ∷ call Check ∷ [];
      told = "0 0, 0 1, 0 2, 0 x74, 4 x2, 0 x5, 4 x2, 0 x19, 0 81, 0 80, 0 91, 0 90, 0 89, 0 88, 0 87, 0 86, 0 x16, 0 0, 0 1, 0 5, 0 19, 0 29, 0 82, 0,";
      left = "0: shift 0 tree - tail 1; 1: shift 2 tree B[4 4 4 4] tail 3; 2: shift 6 tree R[R[B[4 4 4 4] R[3 4 4 4]{3 7 11 15} B[4 4 4 4] B[4 4 4 4]]{16 31 47 63} R[B[4] B[4 4 4]]{4 16}]{63 79} tail 3;";
    }
    ∷
    record {
      blocks = 300;
      moves = call (Open 0 300) ∷ call (Open 0 300) ∷ call (Open 0 300) ∷ pops 4 0 ∷ call (Append true 0 1) ∷ pushes 16 1 1 ∷ call (Set 2 6 17) ∷ call (Get 2 5) ∷ pushes 1 1 18 ∷ call (Append true 1 2) ∷ call (Set 2 7 19) ∷ call (Get 2 9) ∷ pushes 37 1 20 ∷ pushes 16 0 57 ∷ pushes 3 2 73 ∷ call (Append true 0 1) ∷ pushes 5 0 76 ∷ pushes 4 2 81 ∷ call (Append true 0 2) ∷ pops 2 2 ∷ pushes 3 1 85 ∷ pops 6 2 ∷ pops 6 2 ∷ call (Held 0) ∷ call (Length 0) ∷ call (Held 1) ∷ call (Length 1) ∷ call (Held 2) ∷ call (Length 2) ∷ call Check ∷ [];
      told = "0 0, 0 1, 0 2, 4 x4, 0 x17, 4 x2, 0 x2, 4 x2, 0 x67, 4 x2, 0 x3, 4 x12, 0 28, 0 82, 0 0, 0 3, 0 0 x2, 0,";
      left = "0: shift 6 tree R[B[B[4 4 4 4] B[4 4 4 4] B[4 4 4 4] B[4 4 4 4]] R[R[4 4 4 3]{4 8 12 15}]{15}]{64 79} tail 3; 1: shift 0 tree - tail 3; 2: shift 0 tree - tail 0;";
    }
    ∷
    record {
      blocks = 300;
      moves = call (Open 0 300) ∷ call (Open 0 300) ∷ call (Open 0 300) ∷ pushes 9 0 1 ∷ call (Append true 0 2) ∷ pushes 37 2 10 ∷ pushes 9 2 47 ∷ pushes 16 1 56 ∷ pops 4 2 ∷ pushes 4 2 72 ∷ pops 4 0 ∷ pushes 1 0 76 ∷ pushes 4 2 77 ∷ call (Append true 2 1) ∷ pops 4 0 ∷ call (Set 0 6 81) ∷ call (Get 0 8) ∷ call (Set 0 4 82) ∷ call (Get 0 7) ∷ call (Append true 2 1) ∷ pushes 1 1 83 ∷ pops 1 2 ∷ call (Append true 2 1) ∷ call (Held 0) ∷ call (Length 0) ∷ call (Held 1) ∷ call (Length 1) ∷ call (Held 2) ∷ call (Length 2) ∷ call Check ∷ [];
      told = "0 0, 0 1, 0 2, 0 x72, 0 55, 0 54, 0 53, 0 52, 0 x4, 0 9, 0 8, 0 7, 0 6, 0 x6, 0 76, 0 5, 0 4, 0 3, 4 x4, 0 x2, 0 71, 0, 0 0, 0 2, 0 0 x2, 0 21, 0 66, 0,";
      left = "0: shift 0 tree - tail 2; 1: shift 0 tree - tail 0; 2: shift 4 tree B[B[4 4 4 4] B[4 4 4 4] B[4 4 4 4] B[4 4 4 4]] tail 2;";
    }
    ∷
    record {
      blocks = 300;
      moves = call (Open 0 300) ∷ call (Open 0 300) ∷ call (Open 0 300) ∷ call (Append true 0 1) ∷ call (Append true 1 2) ∷ pushes 5 2 1 ∷ pushes 3 2 6 ∷ pushes 4 1 9 ∷ pushes 9 0 13 ∷ call (Append true 1 2) ∷ pops 1 2 ∷ pops 2 0 ∷ pushes 9 1 22 ∷ call (Append true 0 2) ∷ pushes 3 2 31 ∷ pushes 37 2 34 ∷ pushes 5 2 71 ∷ pushes 9 1 76 ∷ pushes 9 2 85 ∷ pushes 9 2 94 ∷ pushes 2 0 103 ∷ call (Held 0) ∷ call (Length 0) ∷ call (Held 1) ∷ call (Length 1) ∷ call (Held 2) ∷ call (Length 2) ∷ call Check ∷ [];
      told = "0 0, 0 1, 0 2, 0 x24, 4, 0 21, 0 20, 0 x84, 0 3, 0 9, 0 10, 0 30, 0 20, 0 63, 0,";
      left = "0: shift 2 tree B[4 4] tail 1; 1: shift 4 tree B[B[4 4 4 4] B[4 4 4]] tail 2; 2: shift 4 tree B[B[4 4 4 4] B[4 4 4 4] B[4 4 4 4] B[4 4 4]] tail 3;";
    }
    ∷
    record {
      blocks = 300;
      moves = call (Open 0 300) ∷ call (Open 0 300) ∷ call (Open 0 300) ∷ pushes 9 2 1 ∷ pushes 9 1 10 ∷ call (Set 2 3 19) ∷ call (Get 2 4) ∷ call (Append true 0 2) ∷ call (Set 1 6 20) ∷ call (Get 1 11) ∷ pushes 2 1 21 ∷ pops 6 2 ∷ pops 1 2 ∷ pushes 9 0 23 ∷ pops 1 1 ∷ call (Append true 1 2) ∷ call (Append true 0 1) ∷ call (Append true 1 0) ∷ pushes 3 0 32 ∷ call (Set 2 2 35) ∷ call (Get 2 11) ∷ pushes 4 2 36 ∷ pops 6 1 ∷ call (Append true 2 1) ∷ call (Held 0) ∷ call (Length 0) ∷ call (Held 1) ∷ call (Length 1) ∷ call (Held 2) ∷ call (Length 2) ∷ call Check ∷ [];
      told = "0 0, 0 1, 0 2, 0 x19, 0 5, 0 x2, 4, 0 x2, 4 x7, 0 x9, 0 22, 0 x6, 4 x2, 0 x4, 0 21, 0 18, 0 17, 0 20, 0 15, 0 14, 0, 0 0, 0 3, 0 0 x2, 0 9, 0 26, 0,";
      left = "0: shift 0 tree - tail 3; 1: shift 0 tree - tail 0; 2: shift 4 tree R[B[4 4 4 4] B[4 4]]{16 24} tail 2;";
    }
    ∷
    record {
      blocks = 300;
      moves = call (Open 0 300) ∷ call (Open 0 300) ∷ call (Open 0 300) ∷ pushes 3 1 1 ∷ call (Set 0 7 4) ∷ call (Get 0 0) ∷ call (Append true 2 1) ∷ pushes 5 2 5 ∷ call (Append true 0 2) ∷ call (Append true 0 2) ∷ call (Append true 2 1) ∷ pushes 4 2 10 ∷ pushes 3 0 14 ∷ pushes 9 1 17 ∷ pushes 16 2 26 ∷ pushes 3 1 42 ∷ pushes 9 1 45 ∷ call (Append true 0 2) ∷ call (Append true 2 0) ∷ call (Set 0 0 54) ∷ call (Get 0 1) ∷ pops 4 1 ∷ pushes 37 0 55 ∷ call (Held 0) ∷ call (Length 0) ∷ call (Held 1) ∷ call (Length 1) ∷ call (Held 2) ∷ call (Length 2) ∷ call Check ∷ [];
      told = "0 0, 0 1, 0 2, 0 x3, 4 x2, 0 x55, 4 x2, 0 53, 0 52, 0 51, 0 50, 0 x37, 0 13, 0 37, 0 5, 0 17, 0 11, 0 31, 0,";
      left = "0: shift 4 tree B[B[4 4 4 4] B[4 4 4 4] B[4]] tail 1; 1: shift 2 tree B[4 4 4 4] tail 1; 2: shift 4 tree R[B[4 4 4 4] R[4 4 3 4]{4 8 11 15}]{16 31} tail 0;";
    }
    ∷
    record {
      blocks = 300;
      moves = call (Open 0 300) ∷ call (Open 0 300) ∷ call (Open 0 300) ∷ call (Append true 1 2) ∷ pushes 37 1 1 ∷ call (Append true 1 0) ∷ pushes 37 1 38 ∷ call (Set 1 5 75) ∷ call (Get 1 9) ∷ pushes 3 2 76 ∷ call (Append true 2 1) ∷ call (Append true 0 1) ∷ call (Append true 1 2) ∷ pushes 2 2 79 ∷ call (Append true 0 1) ∷ pushes 37 0 81 ∷ call (Append true 1 0) ∷ pushes 2 1 118 ∷ pushes 19 0 120 ∷ pushes 2 2 139 ∷ pops 1 2 ∷ pushes 9 0 141 ∷ call (Held 0) ∷ call (Length 0) ∷ call (Held 1) ∷ call (Length 1) ∷ call (Held 2) ∷ call (Length 2) ∷ call Check ∷ [];
      told = "0 0, 0 1, 0 2, 0 x77, 0 10, 0 x70, 0 140, 0 x9, 0 10, 0 28, 0 40, 0 116, 0 0, 0 3, 0,";
      left = "0: shift 4 tree B[B[4 4 4 4] B[4 4 4]] tail 0; 1: shift 6 tree R[R[B[4 4 4 4] R[3 4 4 4]{3 7 11 15} B[4 4 4 4] B[4 4 4 4]]{16 31 47 63} R[B[4] B[4 4 4 4] B[4 4 4 4] B[4 4 4 4]]{4 20 36 52}]{63 115} tail 1; 2: shift 0 tree - tail 3;";
    }
    ∷
    record {
      blocks = 300;
      moves = call (Open 0 300) ∷ call (Open 0 300) ∷ call (Open 0 300) ∷ call (Append true 1 2) ∷ call (Append true 0 2) ∷ call (Append true 1 0) ∷ call (Append true 1 0) ∷ pops 6 0 ∷ call (Set 1 7 1) ∷ call (Get 1 7) ∷ call (Set 2 4 2) ∷ call (Get 2 1) ∷ call (Append true 0 2) ∷ pushes 2 1 3 ∷ pushes 1 2 5 ∷ pushes 19 2 6 ∷ pushes 3 0 25 ∷ pushes 19 0 28 ∷ pushes 19 2 47 ∷ pops 1 1 ∷ call (Append true 1 0) ∷ pushes 19 0 66 ∷ pushes 9 0 85 ∷ call (Held 0) ∷ call (Length 0) ∷ call (Held 1) ∷ call (Length 1) ∷ call (Held 2) ∷ call (Length 2) ∷ call Check ∷ [];
      told = "0 0, 0 1, 0 2, 0 x4, 4 x10, 0 x64, 0 4, 0 x29, 0 10, 0 28, 0 9, 0 23, 0 13, 0 39, 0,";
      left = "0: shift 4 tree B[B[4 4 4 4] B[4 4 4]] tail 0; 1: shift 4 tree R[B[4 4 4 4] R[1 4]{1 5}]{16 21} tail 2; 2: shift 4 tree B[B[4 4 4 4] B[4 4 4 4] B[4]] tail 3;";
    }
    ∷
    record {
      blocks = 300;
      moves = call (Open 0 300) ∷ call (Open 0 300) ∷ call (Open 0 300) ∷ call (Set 1 5 1) ∷ call (Get 1 7) ∷ pops 2 0 ∷ pops 6 2 ∷ pushes 1 2 2 ∷ call (Append true 1 0) ∷ pops 1 2 ∷ pushes 5 1 3 ∷ call (Append true 0 1) ∷ pushes 9 1 8 ∷ pushes 19 2 17 ∷ pushes 5 1 36 ∷ pushes 2 1 41 ∷ call (Append true 1 2) ∷ pushes 19 0 43 ∷ pops 1 0 ∷ pushes 9 1 62 ∷ call (Append true 2 0) ∷ pushes 19 0 71 ∷ call (Held 0) ∷ call (Length 0) ∷ call (Held 1) ∷ call (Length 1) ∷ call (Held 2) ∷ call (Length 2) ∷ call Check ∷ [];
      told = "0 0, 0 1, 0 2, 4 x10, 0 x2, 0 2, 0 x61, 0 61, 0 x29, 0 5, 0 19, 0 15, 0 44, 0 8, 0 23, 0,";
      left = "0: shift 2 tree B[4 4 4 4] tail 3; 1: shift 4 tree B[B[4 4 4 4] B[4 4 4 4] B[4 4 4]] tail 0; 2: shift 4 tree B[B[4 4 4 4] B[4]] tail 3;";
    }
    ∷
    record {
      blocks = 300;
      moves = call (Open 0 300) ∷ call (Open 0 300) ∷ call (Open 0 300) ∷ pushes 2 2 1 ∷ call (Set 0 5 3) ∷ call (Get 0 0) ∷ pops 4 0 ∷ pushes 2 2 4 ∷ call (Append true 0 2) ∷ pushes 9 0 6 ∷ pushes 3 0 15 ∷ call (Set 0 7 18) ∷ call (Get 0 6) ∷ call (Append true 0 2) ∷ call (Append true 1 0) ∷ call (Append true 0 1) ∷ pushes 19 2 19 ∷ pushes 9 0 38 ∷ pushes 16 1 47 ∷ call (Append true 1 0) ∷ call (Append true 0 1) ∷ pushes 16 0 63 ∷ pops 2 1 ∷ call (Held 0) ∷ call (Length 0) ∷ call (Held 1) ∷ call (Length 1) ∷ call (Held 2) ∷ call (Length 2) ∷ call Check ∷ [];
      told = "0 0, 0 1, 0 2, 0 x2, 4 x6, 0 x16, 0 8, 0 x65, 4 x2, 0 19, 0 57, 0 0 x2, 0 5, 0 19, 0,";
      left = "0: shift 4 tree R[B[4 4 4 4] B[4 4 4 4] B[4 4 4 4] B[4 4]]{16 32 48 56} tail 1; 1: shift 0 tree - tail 0; 2: shift 2 tree B[4 4 4 4] tail 3;";
    }
    ∷
    record {
      blocks = 300;
      moves = call (Open 0 300) ∷ call (Open 0 300) ∷ call (Open 0 300) ∷ call (Append true 1 2) ∷ call (Append true 2 0) ∷ pops 4 2 ∷ pops 2 1 ∷ call (Set 2 7 1) ∷ call (Get 2 4) ∷ pushes 1 2 2 ∷ call (Append true 0 2) ∷ call (Append true 0 1) ∷ pops 4 1 ∷ pops 4 0 ∷ pushes 5 2 3 ∷ call (Append true 0 2) ∷ pops 4 1 ∷ pushes 9 2 8 ∷ call (Set 2 2 17) ∷ call (Get 2 2) ∷ pops 6 1 ∷ pushes 5 0 18 ∷ pops 6 0 ∷ call (Held 0) ∷ call (Length 0) ∷ call (Held 1) ∷ call (Length 1) ∷ call (Held 2) ∷ call (Length 2) ∷ call Check ∷ [];
      told = "0 0, 0 1, 0 2, 0 x2, 4 x8, 0 x3, 4 x4, 0 2, 4 x3, 0 x6, 4 x4, 0 x10, 0 17, 4 x6, 0 x5, 0 22, 0 21, 0 20, 0 19, 0 18, 0 7, 0 1, 0 4, 0 0 x2, 0 3, 0 9, 0,";
      left = "0: shift 0 tree 4 tail 0; 1: shift 0 tree - tail 0; 2: shift 2 tree B[4 4] tail 1;";
    }
    ∷
    record {
      blocks = 3;
      moves = call (Open 0 1) ∷ call (Open 0 2) ∷ call (Open 0 1) ∷ call Free ∷ call (Held 0) ∷ call (Length 0) ∷ pushes 4 2 1 ∷ call (Append true 1 1) ∷ pushes 4 1 5 ∷ call (Append true 1 0) ∷ pushes 3 0 9 ∷ pushes 8 2 12 ∷ pushes 5 2 20 ∷ pushes 3 4 25 ∷ pushes 4 0 28 ∷ call (Close 1) ∷ pushes 8 0 32 ∷ call (Append true 4 0) ∷ pushes 8 2 40 ∷ pushes 4 0 48 ∷ pushes 3 3 52 ∷ pushes 3 1 55 ∷ call (Append true 0 0) ∷ pushes 4 1 58 ∷ pushes 3 3 62 ∷ pushes 4 0 65 ∷ pushes 4 0 69 ∷ call Free ∷ [];
      told = "0 0, 0 1, 0 2, 0 3, 0 0 x2, 0 x4, 3, 0 x11, 5 x10, 2 x3, 0 x5, 5 x8, 2, 5 x12, 2 x6, 3, 2 x7, 5 x8, 0 1,";
      left = "0: shift 0 tree 4 tail 3; 2: shift 0 tree 4 tail 3;";
    }
    ∷
    record {
      blocks = 3;
      moves = call (Open 1 1) ∷ call (Open 1 2) ∷ call (Open 0 2) ∷ call Free ∷ call (Held 2) ∷ call (Length 2) ∷ call (Append true 0 1) ∷ pushes 5 2 1 ∷ call (Append true 2 2) ∷ call Free ∷ call (Held 0) ∷ call (Length 0) ∷ pops 5 2 ∷ pushes 8 0 6 ∷ call Free ∷ call (Held 1) ∷ call (Length 1) ∷ pops 5 4 ∷ pushes 4 2 14 ∷ pushes 5 0 18 ∷ call (Append true 3 2) ∷ call Free ∷ call (Held 0) ∷ call (Length 0) ∷ pushes 3 0 23 ∷ call (Append true 1 1) ∷ call (Close 2) ∷ call Free ∷ call (Held 0) ∷ call (Length 0) ∷ call (Open 1 3) ∷ pops 1 2 ∷ pushes 5 0 26 ∷ call Free ∷ call (Held 1) ∷ call (Length 1) ∷ call (Append true 1 2) ∷ call Free ∷ [];
      told = "0 0, 0 1, 0 2, 0 3, 0 0 x2, 0 x6, 3, 0 2, 0 0 x2, 0 5, 0 4, 0 3, 0 2, 0 1, 0 x7, 5, 0 2, 0 0 x2, 2 x5, 0 x4, 5 x5, 2, 0 1 x2, 0 7, 5 x3, 3, 0, 0 2, 0 1, 0 7, 0 2, 4, 5 x5, 0 2, 0 0 x2, 0, 0 2,";
      left = "0: shift 0 tree 4 tail 3; 1: shift 0 tree - tail 0; 2: shift 0 tree - tail 0;";
    }
    ∷
    record {
      blocks = 8;
      moves = call (Open 1 8) ∷ call (Open 1 1) ∷ call (Open 0 5) ∷ call (Append true 1 1) ∷ pushes 3 2 1 ∷ pushes 5 2 4 ∷ pushes 3 3 9 ∷ pushes 8 2 12 ∷ call (Append true 1 2) ∷ call Free ∷ call (Held 0) ∷ call (Length 0) ∷ call (Append true 2 2) ∷ call (Append true 1 2) ∷ call (Open 0 9) ∷ call (Append true 4 1) ∷ call (Open 0 6) ∷ call (Open 2 4) ∷ pushes 8 1 20 ∷ call (Open 0 6) ∷ pops 1 1 ∷ call (Append true 0 1) ∷ call (Append true 1 0) ∷ pushes 5 0 28 ∷ call (Open 1 0) ∷ call (Append true 1 1) ∷ pushes 4 0 33 ∷ call Free ∷ [];
      told = "0 0, 0 1, 0 2, 3, 0 x8, 2 x3, 0 x8, 5, 0 3, 0 0 x2, 3, 5, 9, 2, 0 3, 8, 0 x7, 5, 8, 0 26, 0 x7, 9, 3, 0 x2, 6 x2, 0 1,";
      left = "0: shift 0 tree 4 tail 3; 1: shift 0 tree 4 tail 2; 2: shift 2 tree B[4 4 4 4] tail 0; 3: shift 0 tree - tail 0;";
    }
    ∷
    record {
      blocks = 3;
      moves = call (Open 1 2) ∷ call (Open 1 2) ∷ call (Open 0 2) ∷ call (Close 2) ∷ call (Append true 0 1) ∷ call (Append true 1 2) ∷ call (Append true 0 1) ∷ pushes 8 0 1 ∷ call (Append true 0 2) ∷ pushes 4 3 9 ∷ call (Append true 2 1) ∷ call (Append true 3 2) ∷ call (Open 2 0) ∷ call Free ∷ call (Held 3) ∷ call (Length 3) ∷ pushes 4 1 13 ∷ pops 5 4 ∷ call (Append true 1 1) ∷ pushes 5 1 17 ∷ call (Open 1 2) ∷ pushes 5 1 22 ∷ pushes 4 1 27 ∷ call (Open 0 2) ∷ call (Open 2 1) ∷ pushes 5 1 31 ∷ call (Open 0 1) ∷ call Free ∷ [];
      told = "0 0, 0 1, 0 2, 0 x2, 2, 0 x8, 5, 2 x7, 9, 0 2, 2 x2, 0 x4, 2 x5, 3, 0 x3, 5 x2, 0 2, 5 x9, 0 3, 9, 5 x5, 8, 0 1,";
      left = "0: shift 0 tree 4 tail 3; 1: shift 0 tree 4 tail 3; 2: shift 0 tree - tail 0; 3: shift 0 tree - tail 0;";
    }
    ∷
    record {
      blocks = 5;
      moves = call (Open 0 4) ∷ call (Open 0 3) ∷ call (Open 1 5) ∷ call (Append true 0 1) ∷ call (Append true 1 1) ∷ pops 1 1 ∷ pushes 5 2 1 ∷ call (Open 2 3) ∷ call Free ∷ call (Held 2) ∷ call (Length 2) ∷ call (Close 2) ∷ call Free ∷ call (Held 4) ∷ call (Length 4) ∷ pushes 8 3 6 ∷ call (Open 1 5) ∷ call (Append true 2 2) ∷ call Free ∷ call (Held 0) ∷ call (Length 0) ∷ call (Append true 0 1) ∷ pushes 5 1 14 ∷ pushes 3 0 19 ∷ call Free ∷ call (Held 0) ∷ call (Length 0) ∷ call (Append true 1 1) ∷ pushes 4 0 22 ∷ call (Close 0) ∷ pushes 4 0 26 ∷ pushes 4 1 30 ∷ call (Open 1 0) ∷ call Free ∷ [];
      told = "0 0, 0 1, 0 2, 0, 3, 4, 0 x5, 0 3, 0 4, 0 1, 0 5, 0, 0 5, 2 x2, 0 x8, 0 2, 3, 0 2, 0 0 x2, 0 x9, 0 1, 0 0, 0 3, 3, 6 x4, 0, 2 x4, 0 x2, 6 x2, 9, 0 1,";
      left = "1: shift 0 tree 4 tail 3; 2: shift 0 tree - tail 0; 3: shift 2 tree B[4 4] tail 0;";
    }
    ∷
    record {
      blocks = 3;
      moves = call (Open 0 2) ∷ call (Open 0 2) ∷ call (Open 0 2) ∷ pushes 4 0 1 ∷ pushes 4 1 5 ∷ pushes 5 2 9 ∷ pushes 4 4 14 ∷ pushes 8 4 18 ∷ call (Append true 2 2) ∷ pushes 8 1 26 ∷ pushes 4 0 34 ∷ call (Append true 2 0) ∷ call (Append true 1 1) ∷ call (Open 2 3) ∷ call (Open 1 3) ∷ pushes 3 4 38 ∷ call (Append true 1 1) ∷ call (Open 1 2) ∷ call (Close 0) ∷ call Free ∷ call (Held 2) ∷ call (Length 2) ∷ call (Append true 2 2) ∷ call (Append true 0 2) ∷ pushes 5 1 41 ∷ pushes 4 2 46 ∷ call (Open 2 2) ∷ call Free ∷ [];
      told = "0 0, 0 1, 0 2, 0 x13, 2 x12, 3, 0 x3, 5 x5, 0 x3, 5 x2, 3, 6 x2, 2 x3, 3, 6, 0, 0 1 x2, 0 5, 3, 2, 5 x5, 0 x2, 5 x2, 6, 0 1,";
      left = "1: shift 0 tree 4 tail 3; 2: shift 0 tree 4 tail 3;";
    }
    ∷
    record {
      blocks = 3;
      moves = call (Open 1 1) ∷ call (Open 1 3) ∷ call (Open 0 3) ∷ pushes 3 0 1 ∷ pushes 4 1 4 ∷ pops 5 1 ∷ call (Open 0 1) ∷ call (Open 0 4) ∷ pops 5 0 ∷ call (Append true 1 1) ∷ call (Close 0) ∷ pushes 4 4 8 ∷ call (Append true 2 2) ∷ call (Append true 1 1) ∷ call (Close 2) ∷ pushes 4 1 12 ∷ pushes 3 0 16 ∷ call Free ∷ call (Held 2) ∷ call (Length 2) ∷ pushes 5 0 19 ∷ call (Close 1) ∷ pushes 3 2 24 ∷ call (Append true 4 0) ∷ pushes 8 0 27 ∷ pushes 8 4 35 ∷ call (Close 0) ∷ call Free ∷ [];
      told = "0 0, 0 1, 0 2, 0 x7, 0 7, 0 6, 0 5, 0 4, 4, 0 3, 9, 0 3, 0 2, 0 1, 4 x2, 3, 0, 2 x4, 3 x2, 0 x5, 2 x3, 0 2, 2 x7, 0, 2 x21, 0 3,";
      left = "3: shift 0 tree - tail 0;";
    }
    ∷
    record {
      blocks = 3;
      moves = call (Open 0 1) ∷ call (Open 0 1) ∷ call (Open 1 2) ∷ pushes 3 1 1 ∷ pushes 5 1 4 ∷ call Free ∷ call (Held 1) ∷ call (Length 1) ∷ pushes 8 4 9 ∷ pushes 4 2 17 ∷ call (Close 0) ∷ pushes 4 2 21 ∷ call (Append true 1 2) ∷ call Free ∷ call (Held 2) ∷ call (Length 2) ∷ call (Append true 0 2) ∷ call (Append true 2 1) ∷ pushes 4 2 25 ∷ call (Close 3) ∷ call (Open 0 3) ∷ pops 5 2 ∷ pushes 5 2 29 ∷ pushes 5 2 34 ∷ call (Append true 2 2) ∷ call (Append true 2 0) ∷ call (Append true 4 0) ∷ pushes 4 4 39 ∷ call (Open 1 4) ∷ call Free ∷ [];
      told = "0 0, 0 1, 0 2, 0 x7, 5, 0 2, 0 1, 0 7, 2 x8, 0 x8, 5 x2, 0 1 x2, 0 7, 2, 5 x5, 2, 0 0, 0 23, 0 22, 0 21, 0 20, 0 19, 0 x5, 5 x5, 3, 0, 2 x5, 9, 0 1,";
      left = "0: shift 0 tree - tail 0; 1: shift 0 tree 4 tail 3; 2: shift 0 tree 4 tail 3;";
    }
    ∷
    record {
      blocks = 3;
      moves = call (Open 1 2) ∷ call (Open 1 1) ∷ call (Open 0 3) ∷ pushes 4 0 1 ∷ call (Append true 1 0) ∷ call (Open 0 2) ∷ call (Open 2 0) ∷ pushes 4 0 5 ∷ pushes 5 1 9 ∷ pushes 5 2 14 ∷ pushes 5 3 19 ∷ pushes 8 3 24 ∷ pushes 4 3 32 ∷ pushes 4 1 36 ∷ call (Open 2 3) ∷ call (Append true 2 0) ∷ call (Open 0 3) ∷ pushes 5 1 40 ∷ call Free ∷ call (Held 0) ∷ call (Length 0) ∷ pushes 3 0 45 ∷ call (Open 1 3) ∷ call (Append true 2 2) ∷ pushes 3 2 48 ∷ pushes 5 4 51 ∷ pushes 5 2 56 ∷ call Free ∷ [];
      told = "0 0, 0 1, 0 2, 0 x5, 0 3, 9, 0 x7, 5 x2, 0 x8, 6 x14, 5 x4, 8, 5, 8, 5 x5, 0 0, 0 1, 0 4, 0 x3, 8, 3, 0 x2, 6, 2 x5, 6 x5, 0 0,";
      left = "0: shift 0 tree 4 tail 3; 1: shift 0 tree 4 tail 3; 2: shift 0 tree 4 tail 3; 3: shift 0 tree - tail 3;";
    }
    ∷
    record {
      blocks = 3;
      moves = call (Open 0 3) ∷ call (Open 0 3) ∷ call (Open 1 2) ∷ call (Close 2) ∷ call Free ∷ call (Held 2) ∷ call (Length 2) ∷ pushes 5 4 1 ∷ pushes 5 0 6 ∷ pushes 5 3 11 ∷ call (Close 2) ∷ pushes 8 0 16 ∷ call (Append true 1 0) ∷ pushes 3 2 24 ∷ call (Append true 3 1) ∷ pushes 8 1 27 ∷ pushes 5 0 35 ∷ call (Append true 0 2) ∷ pushes 8 2 40 ∷ pushes 4 2 48 ∷ pushes 4 1 52 ∷ call (Append true 0 1) ∷ pushes 5 0 56 ∷ pushes 4 2 61 ∷ call Free ∷ call (Held 1) ∷ call (Length 1) ∷ pushes 3 1 65 ∷ pushes 8 2 68 ∷ call Free ∷ [];
      told = "0 0, 0 1, 0 2, 0, 0 3, 2 x7, 0 x5, 2 x6, 0 x6, 5 x2, 0, 2 x4, 5 x8, 0 x3, 6 x2, 2 x13, 5 x5, 6 x5, 2 x4, 0 0, 0 3, 0 11, 5 x3, 2 x8, 0 0,";
      left = "0: shift 0 tree - tail 3; 1: shift 2 tree B[4 4] tail 3;";
    }
    ∷ []
