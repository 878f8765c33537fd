mod Firsts
