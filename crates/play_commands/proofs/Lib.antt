mod Rooted
